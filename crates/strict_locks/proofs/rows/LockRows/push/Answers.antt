use Rattle.std.proofs.Common.{◌≡◌, ℕ, List, [], ◌∷◌, ◌++◌, length, slice_set, sym, ap, subst, ◌∙◌, arith, nat_eq}
use Rattle.std.specs.List.{zip}
use Rattle.std.specs.Map.{lookup}
use Rattle.strict_locks.specs.Locks.{Holders}
use Rattle.strict_locks.specs.Rows.{AreRows}
use Rattle.strict_locks.proofs.RowLaws.{missing-from_lookup, AreRows-grow, AreRows-push, room-push, Puts-push}
use Rattle.strict_locks.proofs.rows.LockRows.push.Goals as goal

pub overflow_cast-len : goal.overflow_cast-len
overflow_cast-len c =
    let ids = c.self.inside.ids.items in
    let locks = c.self.inside.locks.items in
    let missing = missing-from_lookup ids locks c.self.inside.places.items c.args.id c.self.invariant (ap (lookup (nat_eq c.args.id)) c.self.view_is ∙ c.requires) in
    let grown = AreRows-grow ids locks c.self.inside.places.items c.open.new.places.items c.self.invariant c.open.ensures.grows in
    let room = room-push ids locks c.open.new.places.items c.args.id grown c.in_ok-open.ensures.opened missing in
    let last : c.len.result ≡ length ids = grind (arith, c.len.ensures, c.reserve.ensures.len) in
    omega (arith, room, last)

pub invariant_of-self-2 : goal.invariant_of-self-2
invariant_of-self-2 c =
    let ids = c.self.inside.ids.items in
    let locks = c.self.inside.locks.items in
    let missing = missing-from_lookup ids locks c.self.inside.places.items c.args.id c.self.invariant (ap (lookup (nat_eq c.args.id)) c.self.view_is ∙ c.requires) in
    let grown = AreRows-grow ids locks c.self.inside.places.items c.open.new.places.items c.self.invariant c.open.ensures.grows in
    let last : c.len.result ≡ length ids = grind (arith, c.len.ensures, c.reserve.ensures.len) in
    let noted : c.push_into_room.new.ids.items ≡ ids ++ c.args.id ∷ [] = c.push_into_room.ensures ∙ ap (λ (xs : List ℕ). xs ++ c.args.id ∷ []) c.reserve.ensures.items in
    let places = slice_set c.open.new.places.items c.args.id c.len.result in
    subst (λ (xs : List ℕ). AreRows xs c.push.new.self.items places) (sym noted)
    (subst (λ (hs : List Holders). AreRows (ids ++ c.args.id ∷ []) hs places) (sym c.in_ok-push.ensures.items)
    (AreRows-push ids locks c.open.new.places.items c.args.id c.len.result c.args.lock last grown c.in_ok-open.ensures.opened missing))

pub returns-clause-puts : goal.returns-clause-puts
returns-clause-puts c = λ x.
    let ids = c.self.inside.ids.items in
    let locks = c.self.inside.locks.items in
    let missing = missing-from_lookup ids locks c.self.inside.places.items c.args.id c.self.invariant (ap (lookup (nat_eq c.args.id)) c.self.view_is ∙ c.requires) in
    let noted : c.push_into_room.new.ids.items ≡ ids ++ c.args.id ∷ [] = c.push_into_room.ensures ∙ ap (λ (xs : List ℕ). xs ++ c.args.id ∷ []) c.reserve.ensures.items in
    rw (← c.self.view_is) (
    (λ i. lookup (nat_eq x) (zip (noted i) (c.in_ok-push.ensures.items i)))
    ∙ Puts-push ids locks c.self.inside.places.items c.args.id c.args.lock c.self.invariant missing x
    )
