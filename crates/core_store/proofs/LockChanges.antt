-- The locks after a client shares an object, or owns it.
use Rattle.std.proofs.Common.{◌≡◌, ◌≢◌, ℕ, List, Bool, true, false, refl, sym, ap, ◌∙◌, subst, Some, ⊎_elim, eq-eqb, ne_eqb}
use Rattle.std.specs.Prelude.{◌||◌, ◌&&◌, ◌==◌, not, [], ◌∷◌, cond}
use Rattle.plain_model.specs.ActiveTransaction.{ActiveTransaction}
use Rattle.plain_model.specs.Machine.{transaction_of, with_id, without_id, is_among}
use Rattle.plain_laws.proofs.Entries.{same_or_apart}
use Rattle.plain_laws.proofs.Ids.{test_same, or_left, among-added_same, among-added_more, among-added_cases}
use Rattle.strict_locks.specs.Locks.{Table, holders_of, is_owner, is_sharer, StandsInWayOfOwn, Nobody, AddsShare, AddsOwner, GivesBack, only_shares as shares_only}
use Rattle.store_model.specs.Core.{Core}
use Rattle.core_store.specs.Tables.{TablesView}
use Rattle.core_store.specs.Stands.{owns_in, shares_in, Stands}

-- ---- small facts on tests

pub same_bool : (a b : Bool) → (a ≡ true → b ≡ true) → (b ≡ true → a ≡ true) → a ≡ b
same_bool true b f g = sym (f refl)
same_bool false true f g = g refl
same_bool false false f g = refl

pub not_true : (b : Bool) → (b ≡ true → ⊥) → b ≡ false
not_true true h = absurd (h refl)
not_true false h = refl

-- ---- an id that joins a list

among-here : (x id : ℕ) (ids : List ℕ) → x ≡ id → is_among x (with_id id ids) ≡ true
among-here x id ids e = subst (λ y. is_among y (with_id id ids) ≡ true) (sym e) (among-added_same id ids)

among-apart : (x id : ℕ) (ids : List ℕ) → x ≢ id → is_among x (with_id id ids) ≡ is_among x ids
among-apart x id ids n = same_bool (is_among x (with_id id ids)) (is_among x ids) (λ e. ⊎_elim (λ k. k) (λ k. absurd (n k)) (among-added_cases x id ids e)) (λ e. among-added_more x id ids e)

-- ---- an id that leaves a list

among-gone : (x id : ℕ) (ids : List ℕ) → x ≡ id → is_among x (without_id id ids) ≡ false
among-gone x id [] e = refl
among-gone x id (y ∷ ys) e =
    ⊎_elim
    (λ (s : y ≡ id). ap (λ b. is_among x (cond (not b) (y ∷ without_id id ys) (without_id id ys))) (eq-eqb y id s) ∙ among-gone x id ys e)
    (λ (n : y ≢ id). ap (λ b. is_among x (cond (not b) (y ∷ without_id id ys) (without_id id ys))) (ne_eqb y id n) ∙ (ap (λ b. b || is_among x (without_id id ys)) (ne_eqb y x (λ q. n (q ∙ e))) ∙ among-gone x id ys e))
    (same_or_apart y id)

among-stays : (x id : ℕ) (ids : List ℕ) → x ≢ id → is_among x (without_id id ids) ≡ is_among x ids
among-stays x id [] d = refl
among-stays x id (y ∷ ys) d =
    ⊎_elim
    (λ (s : y ≡ id). ap (λ b. is_among x (cond (not b) (y ∷ without_id id ys) (without_id id ys))) (eq-eqb y id s) ∙ (among-stays x id ys d ∙ sym (ap (λ b. b || is_among x ys) (ne_eqb y x (λ q. d (sym q ∙ s))))))
    (λ (n : y ≢ id). ap (λ b. is_among x (cond (not b) (y ∷ without_id id ys) (without_id id ys))) (ne_eqb y id n) ∙ ap (λ b. (y == x) || b) (among-stays x id ys d))
    (same_or_apart y id)

-- ---- the locks are those of this client's new transaction, and every other client's are as before

pub record Locked (old new : Table) (pass : ℕ) (u : ActiveTransaction) : Type 0 where
  pub owner : (id : ℕ) → is_owner (holders_of new id) pass ≡ is_among id u.owned
  pub other_owners : (id q : ℕ) → q ≢ pass → is_owner (holders_of new id) q ≡ is_owner (holders_of old id) q
  pub sharer : (id : ℕ) → is_sharer (holders_of new id) pass ≡ is_among id u.shared
  pub other_sharers : (id q : ℕ) → q ≢ pass → is_sharer (holders_of new id) q ≡ is_sharer (holders_of old id) q

module _ (slots : ℕ) (v : TablesView) (c : Core) (h : Stands slots v c) (pass : ℕ) (t u : ActiveTransaction) (found : transaction_of c.moment.state pass ≡ Some t) where
  own : (x : ℕ) → is_owner (holders_of v.locks x) pass ≡ is_among x t.owned
  own x = h.owners x pass ∙ ap (λ o. owns_in o x) found

  share : (x : ℕ) → is_sharer (holders_of v.locks x) pass ≡ is_among x t.shared
  share x = h.sharers x pass ∙ ap (λ o. shares_in o x) found

  -- no lock changes
  pub Locked-same : u.owned ≡ t.owned → u.shared ≡ t.shared → Locked v.locks v.locks pass u
  Locked-same a b = record {
    owner = λ x. own x ∙ ap (is_among x) (sym a);
    other_owners = λ x q n. refl;
    sharer = λ x. share x ∙ ap (is_among x) (sym b);
    other_sharers = λ x q n. refl;
  }

  -- the client shares the object
  pub Locked-share : (locks : Table) (id : ℕ) → AddsShare v.locks locks pass id → u.owned ≡ t.owned → u.shared ≡ with_id id t.shared → Locked v.locks locks pass u
  Locked-share locks id adds a b = record {
    owner = λ x. adds.owners x pass ∙ (own x ∙ ap (is_among x) (sym a));
    other_owners = λ x q n. adds.owners x q;
    sharer = λ x.
        ⊎_elim
        (λ (e : x ≡ id). subst (λ y. is_sharer (holders_of locks y) pass ≡ true) (sym e) (adds.sharers pass ∙ ap (λ b. b || is_sharer (holders_of v.locks id) pass) (test_same pass)) ∙ (sym (among-here x id t.shared e) ∙ ap (is_among x) (sym b)))
        (λ (n : x ≢ id). adds.other_sharers x pass n ∙ (share x ∙ (sym (among-apart x id t.shared n) ∙ ap (is_among x) (sym b))))
        (same_or_apart x id);
    other_sharers = λ x q n.
        ⊎_elim
        (λ (e : x ≡ id). subst (λ y. is_sharer (holders_of locks y) q ≡ is_sharer (holders_of v.locks y) q) (sym e) (adds.sharers q ∙ ap (λ b. b || is_sharer (holders_of v.locks id) q) (ne_eqb q pass n)))
        (λ (d : x ≢ id). adds.other_sharers x q d)
        (same_or_apart x id);
  }

  -- the client gives its shared lock back, and doesn't own the object
  pub Locked-release : (locks : Table) (id : ℕ) → GivesBack v.locks locks pass id → shares_only (holders_of v.locks id) pass ≡ true → u.owned ≡ t.owned → u.shared ≡ without_id id t.shared → Locked v.locks locks pass u
  Locked-release locks id gives only a b = record {
    owner = λ x.
        ⊎_elim
        (λ (e : x ≡ id). subst (λ y. is_owner (holders_of locks y) pass ≡ is_among y u.owned) (sym e) (gives.owners pass ∙ (ap (λ b. not b && is_owner (holders_of v.locks id) pass) (eq-eqb pass pass refl) ∙ (sym (unowned (is_sharer (holders_of v.locks id) pass) (is_owner (holders_of v.locks id) pass) only) ∙ (own id ∙ ap (is_among id) (sym a))))))
        (λ (n : x ≢ id). ap (λ l. is_owner l pass) (gives.others x n) ∙ (own x ∙ ap (is_among x) (sym a)))
        (same_or_apart x id);
    other_owners = λ x q n.
        ⊎_elim
        (λ (e : x ≡ id). subst (λ y. is_owner (holders_of locks y) q ≡ is_owner (holders_of v.locks y) q) (sym e) (gives.owners q ∙ ap (λ b. not b && is_owner (holders_of v.locks id) q) (ne_eqb q pass n)))
        (λ (d : x ≢ id). ap (λ l. is_owner l q) (gives.others x d))
        (same_or_apart x id);
    sharer = λ x.
        ⊎_elim
        (λ (e : x ≡ id). subst (λ y. is_sharer (holders_of locks y) pass ≡ false) (sym e) (gives.sharers pass ∙ ap (λ b. not b && is_sharer (holders_of v.locks id) pass) (eq-eqb pass pass refl)) ∙ (sym (among-gone x id t.shared e) ∙ ap (is_among x) (sym b)))
        (λ (n : x ≢ id). ap (λ l. is_sharer l pass) (gives.others x n) ∙ (share x ∙ (sym (among-stays x id t.shared n) ∙ ap (is_among x) (sym b))))
        (same_or_apart x id);
    other_sharers = λ x q n.
        ⊎_elim
        (λ (e : x ≡ id). subst (λ y. is_sharer (holders_of locks y) q ≡ is_sharer (holders_of v.locks y) q) (sym e) (gives.sharers q ∙ ap (λ b. not b && is_sharer (holders_of v.locks id) q) (ne_eqb q pass n)))
        (λ (d : x ≢ id). ap (λ l. is_sharer l q) (gives.others x d))
        (same_or_apart x id);
  }
    where
      unowned : (x y : Bool) → (x && not y) ≡ true → y ≡ false
      unowned true true e = cc
      unowned true false e = refl
      unowned false y e = cc

  -- the client owns the object, which nobody else held
  pub Locked-own : (locks : Table) (id : ℕ) → AddsOwner v.locks locks pass id → Nobody (StandsInWayOfOwn (holders_of v.locks id) pass) → u.owned ≡ with_id id t.owned → u.shared ≡ t.shared → Locked v.locks locks pass u
  Locked-own locks id adds nobody a b = record {
    owner = λ x.
        ⊎_elim
        (λ (e : x ≡ id). subst (λ y. is_owner (holders_of locks y) pass ≡ true) (sym e) (adds.owner pass ∙ test_same pass) ∙ (sym (among-here x id t.owned e) ∙ ap (is_among x) (sym a)))
        (λ (n : x ≢ id). adds.other_owners x pass n ∙ (own x ∙ (sym (among-apart x id t.owned n) ∙ ap (is_among x) (sym a))))
        (same_or_apart x id);
    other_owners = λ x q n.
        ⊎_elim
        (λ (e : x ≡ id). subst (λ y. is_owner (holders_of locks y) q ≡ is_owner (holders_of v.locks y) q) (sym e) (adds.owner q ∙ (ne_eqb q pass n ∙ sym (not_true (is_owner (holders_of v.locks id) q) (λ o. nobody q (n, or_left (is_owner (holders_of v.locks id) q) (is_sharer (holders_of v.locks id) q) o))))))
        (λ (d : x ≢ id). adds.other_owners x q d)
        (same_or_apart x id);
    sharer = λ x. adds.sharers x pass ∙ (share x ∙ ap (is_among x) (sym b));
    other_sharers = λ x q n. adds.sharers x q;
  }
