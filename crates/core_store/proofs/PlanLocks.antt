-- Locks that are granted or refused, in the tables and in the reference machine.
use Rattle.std.proofs.Common.{◌≡◌, ◌≢◌, ℕ, true, false, refl, sym, ap, ◌∙◌, Option, Some, None, ◌⊎◌, inl, inr}
use Rattle.std.specs.Prelude.{◌||◌}
use Rattle.plain_model.specs.ActiveTransaction.{ActiveTransaction}
use Rattle.plain_model.specs.Machine.{transaction_of, is_among, blocks_sharing, blocks_owning}
use Rattle.plain_model.specs.History.{holds}
use Rattle.plain_laws.proofs.Ids.{or_cases}
use Rattle.plain_laws.proofs.Locks.{least_other-found, least_other-nobody}
use Rattle.strict_locks.specs.Locks.{holders_of, is_owner, is_sharer, is_holder, StandsInWayOfShare, StandsInWayOfOwn, Nobody, IsLeast}
use Rattle.store_model.specs.Core.{Core}
use Rattle.core_store.specs.Tables.{TablesView}
use Rattle.core_store.specs.Stands.{owns_in, shares_in, Stands}
use Rattle.core_store.proofs.PlanActive.{not_true}

found_owner : (o : Option ActiveTransaction) (id : ℕ) → owns_in o id ≡ true → (u : ActiveTransaction) × (o ≡ Some u)
found_owner (Some u) id e = (u, refl)
found_owner None id e = absurd (cc)

found_sharer : (o : Option ActiveTransaction) (id : ℕ) → shares_in o id ≡ true → (u : ActiveTransaction) × (o ≡ Some u)
found_sharer (Some u) id e = (u, refl)
found_sharer None id e = absurd (cc)

module _ {slots : ℕ} {v : TablesView} {core : Core} (h : Stands slots v core) where
  pub owned_found : (id q : ℕ) (u : ActiveTransaction) → transaction_of core.moment.state q ≡ Some u → is_owner (holders_of v.locks id) q ≡ is_among id u.owned
  owned_found id q u f = h.owners id q ∙ ap (λ o. owns_in o id) f

  pub shared_found : (id q : ℕ) (u : ActiveTransaction) → transaction_of core.moment.state q ≡ Some u → is_sharer (holders_of v.locks id) q ≡ is_among id u.shared
  shared_found id q u f = h.sharers id q ∙ ap (λ o. shares_in o id) f

  pub held_found : (id q : ℕ) (u : ActiveTransaction) → transaction_of core.moment.state q ≡ Some u → is_holder (holders_of v.locks id) q ≡ holds id u
  held_found id q u f = ap (λ b. b || is_sharer (holders_of v.locks id) q) (owned_found id q u f) ∙ ap (λ b. is_among id u.owned || b) (shared_found id q u f)

  pub found_holder : (id q : ℕ) → is_holder (holders_of v.locks id) q ≡ true → (u : ActiveTransaction) × (transaction_of core.moment.state q ≡ Some u)
  found_holder id q e = by (or_cases (is_owner (holders_of v.locks id) q) (is_sharer (holders_of v.locks id) q) e)
    where
      by : (is_owner (holders_of v.locks id) q ≡ true) ⊎ (is_sharer (holders_of v.locks id) q ≡ true) → (u : ActiveTransaction) × (transaction_of core.moment.state q ≡ Some u)
      by (inl k) = found_owner (transaction_of core.moment.state q) id (sym (h.owners id q) ∙ k)
      by (inr k) = found_sharer (transaction_of core.moment.state q) id (sym (h.sharers id q) ∙ k)

  -- nobody else owns it
  pub alone-shared : (pass id : ℕ) → Nobody (StandsInWayOfShare (holders_of v.locks id) pass) → (q : ℕ) (u : ActiveTransaction) → transaction_of core.moment.state q ≡ Some u → q ≢ pass → is_among id u.owned ≡ false
  alone-shared pass id n q u f a = not_true (is_among id u.owned) (λ e. n q (a, owned_found id q u f ∙ e))

  -- nobody else holds it
  pub alone-owned : (pass id : ℕ) → Nobody (StandsInWayOfOwn (holders_of v.locks id) pass) → (q : ℕ) (u : ActiveTransaction) → transaction_of core.moment.state q ≡ Some u → q ≢ pass → holds id u ≡ false
  alone-owned pass id n q u f a = not_true (holds id u) (λ e. n q (a, held_found id q u f ∙ e))

  pub unblocked-shared : (pass id : ℕ) → Nobody (StandsInWayOfShare (holders_of v.locks id) pass) → blocks_sharing core.moment.state pass id ≡ None
  unblocked-shared pass id n = least_other-nobody (λ t. is_among id t.owned) pass core.moment.state.active h.sound.state.passes (alone-shared pass id n)

  pub unblocked-owned : (pass id : ℕ) → Nobody (StandsInWayOfOwn (holders_of v.locks id) pass) → blocks_owning core.moment.state pass id ≡ None
  unblocked-owned pass id n = least_other-nobody (holds id) pass core.moment.state.active h.sound.state.passes (alone-owned pass id n)

  pub blocked-shared : (pass id p : ℕ) → IsLeast (StandsInWayOfShare (holders_of v.locks id) pass) p → blocks_sharing core.moment.state pass id ≡ Some p
  blocked-shared pass id p l =
      let u = found_owner (transaction_of core.moment.state p) id (sym (h.owners id p) ∙ l.0.1) in
      least_other-found (λ t. is_among id t.owned) pass p core.moment.state.active h.sound.state.passes (record {
        apart = l.0.0;
        transaction = u.0;
        found = u.1;
        passes = sym (owned_found id p u.0 u.1) ∙ l.0.1;
        least = λ q x f a e. l.1 q (a, owned_found id q x f ∙ e);
      })

  pub blocked-owned : (pass id p : ℕ) → IsLeast (StandsInWayOfOwn (holders_of v.locks id) pass) p → blocks_owning core.moment.state pass id ≡ Some p
  blocked-owned pass id p l =
      let u = found_holder id p l.0.1 in
      least_other-found (holds id) pass p core.moment.state.active h.sound.state.passes (record {
        apart = l.0.0;
        transaction = u.0;
        found = u.1;
        passes = sym (held_found id p u.0 u.1) ∙ l.0.1;
        least = λ q x f a e. l.1 q (a, held_found id q x f ∙ e);
      })
