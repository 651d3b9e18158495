use Rattle.std.proofs.Common.{◌≡◌, ◌+◌, ◌*◌, ◌≤◌, length, vec_capacity, refl, arith}
use Rattle.green_walk.proofs.CopiedInside.{new-inside, same-list}
use Rattle.green_walk.proofs.RowLaws.{no-slots}
use Rattle.green_walk.proofs.copied_slots.CopiedSlots.new.Goals as goal

pub invariant_of-result : goal.invariant_of-result
invariant_of-result g c =
    let objects = c.in_ok-objects.ensures.capacity in
    let rows = c.in_ok-rows.ensures.capacity in
    let links = c.in_ok-next.ensures.capacity in
    let firsts = c.in_ok-first.ensures.len in
    new-inside g.row.SLOTS c.args.ids _ _ _ c.in_ok-objects.objects.items c.in_ok-rows.rows.items c.in_ok-first.first.items c.in_ok-next.next.items c.requires.size c.requires.few
    c.in_ok-objects.ensures.items c.in_ok-rows.ensures.items (omega (arith, firsts)) (omega (arith, objects)) (omega (arith, rows)) (omega (arith, links))

pub returns : goal.returns
returns g c = same-list _ _ _ _ (no-slots c.in_ok-objects.objects.items c.in_ok-rows.rows.items c.in_ok-objects.ensures.items c.in_ok-rows.ensures.items) refl
