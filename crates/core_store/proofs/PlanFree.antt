-- The least free id of the tables is the machine's.
use Rattle.std.proofs.Common.{◌≡◌, ℕ, ◌<◌, ◌≤◌, [], Bool, true, false, refl, sym, ap, ◌∙◌, Some, None, inl, inr, ◌⊎◌, arith}
use Rattle.std.specs.Prelude.{◌&&◌, not, nat_lt, nat_le}
use Rattle.std.specs.List.{list_any}
use Rattle.std.specs.Ordering.{nat_cmp}
use Rattle.std.specs.BTreeMap.{is_at}
use Rattle.std.proofs.lemmas.Bool.Decides.{nat_tests}
use Rattle.plain_model.specs.Machine.{State, free_id, is_stored}
use Rattle.plain_model.specs.History.{IsId}
use Rattle.plain_laws.proofs.Ids.{true_or_false}
use Rattle.plain_laws.proofs.Locks.{free-found, free-full}
use Rattle.store_model.specs.Core.{Core}
use Rattle.core_store.specs.FreeIds.{IsLeastOf}
use Rattle.core_store.specs.Tables.{TablesView}
use Rattle.core_store.specs.Stands.{is_free, Stands}
use Rattle.core_store.proofs.PlanActive.{contradict}

and_parts : (a b : Bool) → (a && b) ≡ true → (a ≡ true) × (b ≡ true)
and_parts true b e = (refl, e)
and_parts false b e = absurd (cc)

and_both : (a b : Bool) → a ≡ true → b ≡ true → (a && b) ≡ true
and_both a b e f = rw (e, f)

below_from : (a b : ℕ) → nat_lt a b ≡ true → a < b
below_from a b e = grind (arith, nat_tests)

up_to_from : (a b : ℕ) → nat_le a b ≡ true → a ≤ b
up_to_from a b e = grind (arith, nat_tests)

from_below : (a b : ℕ) → a < b → nat_lt a b ≡ true
from_below a b e = grind (arith, nat_tests)

from_up_to : (a b : ℕ) → a ≤ b → nat_le a b ≡ true
from_up_to a b e = grind (arith, nat_tests)

not_false : (b : Bool) → not b ≡ true → b ≡ false
not_false true e = absurd (cc)
not_false false e = refl

false_not : (b : Bool) → b ≡ false → not b ≡ true
false_not b e = rw e

-- what it is to be free
pub free-is : (s : State) (id : ℕ) → is_free s id ≡ true → IsId s.ids id × (is_stored s.stored id ≡ false)
free-is s id e =
    let a = and_parts (nat_lt 0 id && nat_le id s.ids) (not (is_stored s.stored id)) e in
    let b = and_parts (nat_lt 0 id) (nat_le id s.ids) a.0 in
    ((below_from 0 id b.0, up_to_from id s.ids b.1), not_false (is_stored s.stored id) a.1)

pub is-free : (s : State) (id : ℕ) → IsId s.ids id → is_stored s.stored id ≡ false → is_free s id ≡ true
is-free s id i n = and_both (nat_lt 0 id && nat_le id s.ids) (not (is_stored s.stored id)) (and_both (nat_lt 0 id) (nat_le id s.ids) (from_below 0 id i.0) (from_up_to id s.ids i.1)) (false_not (is_stored s.stored id) n)

module _ {slots : ℕ} {v : TablesView} {core : Core} (h : Stands slots v core) where
  -- the least free id is one of the store's that isn't stored
  pub least-free : (id : ℕ) → IsLeastOf v.free id → IsId core.moment.state.ids id × (is_stored core.moment.state.stored id ≡ false)
  least-free id l = free-is core.moment.state id (sym (h.free id) ∙ l.among)

  -- and the machine takes it
  pub free_id-least : (id : ℕ) → IsLeastOf v.free id → free_id core.moment.state ≡ Some id
  free_id-least id l = let is = least-free id l in free-found core.moment.state.stored core.moment.state.ids id (record { within = is.0; free = is.1; below = λ i z k. below_stored i is.0 z k (true_or_false (is_stored core.moment.state.stored i)) })
    where
      below_stored : (i : ℕ) → IsId core.moment.state.ids id → 0 < i → i < id → (is_stored core.moment.state.stored i ≡ true) ⊎ (is_stored core.moment.state.stored i ≡ false) → is_stored core.moment.state.stored i ≡ true
      below_stored i d z k (inl y) = y
      below_stored i d z k (inr n) =
          let top = d.1 in
          let f = is-free core.moment.state i (z, omega (arith, k, top)) n in
          let b = l.least i (h.free i ∙ f) in
          absurd (omega (arith, b, k))

  -- where none is free, the machine has none
  pub free_id-none : v.free ≡ [] → free_id core.moment.state ≡ None
  free_id-none none = free-full core.moment.state.stored core.moment.state.ids (λ i k. stored_or i k (true_or_false (is_stored core.moment.state.stored i)))
    where
      stored_or : (i : ℕ) → IsId core.moment.state.ids i → (is_stored core.moment.state.stored i ≡ true) ⊎ (is_stored core.moment.state.stored i ≡ false) → is_stored core.moment.state.stored i ≡ true
      stored_or i k (inl y) = y
      stored_or i k (inr n) = contradict (list_any (is_at (nat_cmp i)) v.free) (h.free i ∙ is-free core.moment.state i k n) (ap (list_any (is_at (nat_cmp i))) none)
