use Rattle.std.proofs.Common.{subst, arith, ◌∙◌}
use Rattle.green_walk.specs.Linked.{IsNextNaming, bare}
use Rattle.green_walk.proofs.LinkLaws.{none-named}
use Rattle.green_walk.proofs.RowLaws.{length-bare}
use Rattle.green_walk.proofs.copied_slots.first_from.Goals as goal
use Rattle.green_walk.proofs.copied_slots.first_from.Goals.{else-place-from-via-then-place-from+then-place-count+else-target_in-id, else-place-from-via-then-place-from+else-place-count, else-place-from-via-else-place-from}

pub returns-else-place-from : goal.returns-else-place-from
returns-else-place-from g c =
    let size = length-bare g.row.SLOTS c.args.rows.now c.requires.long in
    let known = c.requires.linked in
    subst (λ n. IsNextNaming (bare c.args.rows.now) c.args.id c.args.from n) size
    (none-named (bare c.args.rows.now) c.args.from c.args.id known.1 c.args.first.now known.0 known.4 c.requires.some known.3
    (λ f w e.
    elim c.else-place-from.branch [
      | else-place-from-via-then-place-from+then-place-count+else-target_in-id w ↦ w.if-target_in-id.false (w.target_in.ensures ∙ e)
      | else-place-from-via-then-place-from+else-place-count u ↦ let past = u.if-place-count.false in omega (arith, past, w, size)
      | else-place-from-via-else-place-from u ↦ let early = u.if-place-from.false in omega (arith, early, f)
    ]))
