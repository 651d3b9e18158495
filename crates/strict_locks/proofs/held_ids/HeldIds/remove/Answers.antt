use Rattle.std.proofs.Common.{ap, ◌∙◌, arith}
use Rattle.std.specs.List.{list_any}
use Rattle.std.specs.Ordering.{nat_cmp}
use Rattle.std.specs.BTreeMap.{is_at}
use Rattle.strict_locks.proofs.RowLaws.{placed-most}
use Rattle.strict_locks.proofs.HeldLaws.{named-absent, named-removed, AreNoted-moved, AreNoted-last}
use Rattle.strict_locks.proofs.held_ids.HeldIds.remove.Goals as goal

pub returns-in_default : goal.returns-in_default
returns-in_default c = rw (← c.self.view_is) (named-absent c.self.inside.ids.items c.args.id c.in_default.ensures.missing)

pub overflow_cast-place : goal.overflow_cast-place
overflow_cast-place c =
    let most = placed-most c.self.inside.ids.items c.self.inside.places.items c.self.invariant.placed in
    let inside = c.in-Some.ensures.found.0 in
    omega (arith, most, inside, c.self.invariant.few)

pub returns-then-place-len : goal.returns-then-place-len
returns-then-place-len c = λ x.
    let f = c.in-Some.ensures.found in
    rw (← c.self.view_is) (ap (list_any (is_at (nat_cmp x))) c.swap_remove.ensures.items ∙ named-removed c.self.inside.ids.items c.self.inside.places.items c.in-Some.place c.args.id c.swap_remove.result c.self.invariant.placed f.0 f.1 x)

pub returns-else-place-len : goal.returns-else-place-len
returns-else-place-len c = λ x.
    let f = c.in-Some.ensures.found in
    rw (← c.self.view_is) (ap (list_any (is_at (nat_cmp x))) c.swap_remove.ensures.items ∙ named-removed c.self.inside.ids.items c.self.inside.places.items c.in-Some.place c.args.id c.swap_remove.result c.self.invariant.placed f.0 f.1 x)
