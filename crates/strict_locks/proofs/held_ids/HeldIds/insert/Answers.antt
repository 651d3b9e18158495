use Rattle.std.proofs.Common.{◌≡◌, length, ℕ, List, ◌∷◌, ◌++◌, [], slice_set, sym, ap, subst, ◌∙◌, arith}
use Rattle.std.specs.List.{list_any}
use Rattle.std.specs.Ordering.{nat_cmp}
use Rattle.std.specs.BTreeMap.{is_at}
use Rattle.strict_locks.specs.Rows.{AreNoted}
use Rattle.strict_locks.proofs.HeldLaws.{AreNoted-grow, AreNoted-push, noted-room}
use Rattle.strict_locks.proofs.held_ids.HeldIds.insert.Goals as goal

pub overflow_cast-place : goal.overflow_cast-place
overflow_cast-place c =
    let grown = AreNoted-grow c.self.inside.ids.items c.self.inside.places.items c.open.new.places.items c.self.invariant c.open.ensures.grows in
    let missing = ap (list_any (is_at (nat_cmp c.args.id))) c.self.view_is ∙ c.requires in
    let room = noted-room c.self.inside.ids.items c.open.new.places.items c.args.id grown c.in_ok-open.ensures.opened missing in
    omega (arith, room, c.len-place.ensures)

pub invariant_of-self-2 : goal.invariant_of-self-2
invariant_of-self-2 c =
    let grown = AreNoted-grow c.self.inside.ids.items c.self.inside.places.items c.open.new.places.items c.self.invariant c.open.ensures.grows in
    let missing = ap (list_any (is_at (nat_cmp c.args.id))) c.self.view_is ∙ c.requires in
    let last : c.len-place.result ≡ length c.self.inside.ids.items = grind (arith, c.len-place.ensures) in
    let places = slice_set c.open.new.places.items c.args.id c.len-place.result in
    subst (λ (xs : List ℕ). AreNoted xs places) (sym c.in_ok-push.ensures.items) (AreNoted-push c.self.inside.ids.items c.open.new.places.items c.args.id c.len-place.result last grown c.in_ok-open.ensures.opened missing)
