-- What a new link does to the ring.
use Rattle.std.proofs.Common.{◌≡◌, ◌≢◌, ℕ, ◌==◌, cond, Some, is_some, unwrap_or, nat_eq, ap, sym, subst, ◌∙◌, ⊎_elim, arith}
use Rattle.std.specs.Cmp.{nat_eq_equiv}
use Rattle.std.proofs.lemmas.Bool.{cases_eq}
use Rattle.std.proofs.lemmas.Bool.Decides.{nat_tests}
use Rattle.indexmap.specs.IndexMap.{IndexMap, Updates, IsUnique, with_value_at}
use Rattle.indexmap.proofs.CallerLemmas.{updates-with_value_at}
use Rattle.ref_tables.specs.declared.ring.Link.{Link}
use Rattle.ref_tables.specs.Ring.{link_of, is_linked, IsLinked, StandsAtItsNumber}

-- the id has the link, and each other id has its own
pub record HasPut {S : Type 0} (old new : IndexMap ℕ Link S) (id : ℕ) (link : Link) : Type 0 where
  pub links : (at : ℕ) → link_of new at ≡ cond (at == id) link (link_of old at)
  pub linked : (at : ℕ) → is_linked new at ≡ is_linked old at

HasPut-updates : {S : Type 0} (old new : IndexMap ℕ Link S) (id : ℕ) (link : Link) → Updates nat_eq old new id (Some link) → IsLinked old id → HasPut old new id link
HasPut-updates old new id link updates had = record {
  links = λ at. ⊎_elim
      (λ (here : at ≡ id). let now = ap (λ o. unwrap_or o (record { previous = 0; next = 0 })) updates.1 in subst (λ x. link_of new x ≡ cond (x == id) link (link_of old x)) (sym here) (grind (arith, nat_tests, now)))
      (λ (apart : at ≢ id). let same = ap (λ o. unwrap_or o (record { previous = 0; next = 0 })) (updates.2 at (grind (arith, nat_tests, apart))) in grind (arith, nat_tests, apart, same))
      (cases_eq at id);
  linked = λ at. ⊎_elim
      (λ (here : at ≡ id). subst (λ x. is_linked new x ≡ is_linked old x) (sym here) (ap is_some updates.1 ∙ sym had))
      (λ (apart : at ≢ id). ap is_some (updates.2 at (grind (arith, nat_tests, apart))))
      (cases_eq at id);
}

-- where the id stands at its own place
pub HasPut-in_place : {S : Type 0} (old : IndexMap ℕ Link S) (id : ℕ) (link : Link) → IsUnique nat_eq old → StandsAtItsNumber old id → IsLinked old id → HasPut old (with_value_at old id link) id link
HasPut-in_place old id link unique stands had = HasPut-updates old (with_value_at old id link) id link (updates-with_value_at old id link nat_eq_equiv unique id stands.0 stands.1) had
