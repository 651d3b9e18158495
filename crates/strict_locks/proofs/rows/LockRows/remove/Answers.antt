use Rattle.std.proofs.Common.{ap, ◌∙◌, arith, nat_eq}
use Rattle.std.specs.List.{zip}
use Rattle.std.specs.Map.{lookup}
use Rattle.strict_locks.proofs.RowLaws.{lookup-missing, placed-most, removed-gone, removed-others}
use Rattle.strict_locks.proofs.rows.LockRows.remove.Goals as goal

pub returns-in_default-clause-gone : goal.returns-in_default-clause-gone
returns-in_default-clause-gone c = rw (← c.self.view_is) (lookup-missing c.self.inside.ids.items c.self.inside.locks.items c.args.id c.in_default.ensures.missing)

pub overflow_cast-place : goal.overflow_cast-place
overflow_cast-place c =
    let most = placed-most c.self.inside.ids.items c.self.inside.places.items c.self.invariant.placed in
    let inside = c.in-Some.ensures.found.0 in
    omega (arith, most, inside, c.self.invariant.few)

pub returns-then-place-len-clause-gone : goal.returns-then-place-len-clause-gone
returns-then-place-len-clause-gone c =
    let f = c.in-Some.ensures.found in
    ap (λ xs. lookup (nat_eq c.args.id) (zip xs c.swap_remove-2.new.self.items)) c.swap_remove.ensures.items
    ∙ removed-gone c.self.inside.ids.items c.swap_remove-2.new.self.items c.self.inside.places.items c.in-Some.place c.args.id c.swap_remove.result c.self.invariant.placed f.0 f.1

pub returns-then-place-len-clause-others : goal.returns-then-place-len-clause-others
returns-then-place-len-clause-others c = λ x other.
    let f = c.in-Some.ensures.found in
    rw (← c.self.view_is) (
    (λ i. lookup (nat_eq x) (zip (c.swap_remove.ensures.items i) (c.swap_remove-2.ensures.items i)))
    ∙ removed-others c.self.inside.ids.items c.self.inside.locks.items c.self.inside.places.items c.in-Some.place c.args.id c.swap_remove.result c.swap_remove-2.result c.self.invariant f.0 f.1 x other
    )

pub returns-else-place-len-clause-gone : goal.returns-else-place-len-clause-gone
returns-else-place-len-clause-gone c =
    let f = c.in-Some.ensures.found in
    ap (λ xs. lookup (nat_eq c.args.id) (zip xs c.swap_remove-2.new.self.items)) c.swap_remove.ensures.items
    ∙ removed-gone c.self.inside.ids.items c.swap_remove-2.new.self.items c.self.inside.places.items c.in-Some.place c.args.id c.swap_remove.result c.self.invariant.placed f.0 f.1

pub returns-else-place-len-clause-others : goal.returns-else-place-len-clause-others
returns-else-place-len-clause-others c = λ x other.
    let f = c.in-Some.ensures.found in
    rw (← c.self.view_is) (
    (λ i. lookup (nat_eq x) (zip (c.swap_remove.ensures.items i) (c.swap_remove-2.ensures.items i)))
    ∙ removed-others c.self.inside.ids.items c.self.inside.locks.items c.self.inside.places.items c.in-Some.place c.args.id c.swap_remove.result c.swap_remove-2.result c.self.invariant f.0 f.1 x other
    )
