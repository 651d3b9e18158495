use Rattle.std.proofs.Common.{◌≡◌, ◌+◌, ◌*◌, length, sym, ◌∙◌, arith}
use Rattle.green_walk.specs.Linked.{bare}
use Rattle.green_walk.proofs.LinkLaws.{linked-with, linked-past}
use Rattle.green_walk.proofs.RowLaws.{bare-at, before-end, length-bare}
use Rattle.green_walk.proofs.copied_slots.link.Goals as goal
use Rattle.green_walk.proofs.copied_slots.link.Goals.{else-target-ne0-via-then-target-ne0+else-target-len, else-target-ne0-via-else-target-ne0}

pub returns-then-target-len-clause-linked : goal.returns-then-target-len-clause-linked
returns-then-target-len-clause-linked g c limit sized linked =
    let small = c.if-target-len.true in
    let all = c.len.ensures in
    let size = length-bare g.row.SLOTS c.args.rows.now c.requires.long in
    let room = c.requires.room in
    let here = before-end g.row.SLOTS (length c.args.rows.now) c.args.object c.args.slot c.requires.object c.requires.slot in
    linked-with (bare c.args.rows.now) (g.row.SLOTS * c.args.object + c.args.slot) limit _ c.first_from.result c.args.first.now.items c.args.next.now.items
    (bare-at g.row.SLOTS c.args.rows.now c.args.object c.args.slot c.requires.long c.requires.object c.requires.slot)
    (omega (arith, here, size)) (omega (arith, size, room)) (omega (arith, small, all)) linked c.first_from.ensures

pub returns-else-target-ne0-clause-linked : goal.returns-else-target-ne0-clause-linked
returns-else-target-ne0-clause-linked g c limit sized linked =
    let same = bare-at g.row.SLOTS c.args.rows.now c.args.object c.args.slot c.requires.long c.requires.object c.requires.slot in
    linked-past (bare c.args.rows.now) (g.row.SLOTS * c.args.object + c.args.slot) limit c.args.first.now.items c.args.next.now.items
    (λ n s.
    elim c.else-target-ne0.branch [
      | else-target-ne0-via-then-target-ne0+else-target-len w ↦ let past = w.if-target-len.false in let all = w.len.ensures in omega (arith, past, all, same, s, sized)
      | else-target-ne0-via-else-target-ne0 w ↦ n (sym same ∙ w.if-target-ne0.false)
    ])
    linked
