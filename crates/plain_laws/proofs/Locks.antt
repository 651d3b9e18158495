-- Which client stands in the way, which id is free, and each client's transaction after a change, by look-ups alone.
use Rattle.std.proofs.Common.{◌≡◌, ◌≢◌, ℕ, zero, suc, ◌+◌, ◌<◌, ◌≤◌, List, [], ◌∷◌, Option, Some, None, refl, sym, ap, ◌∙◌, subst, arith, Bool, true, false, cond, ⊎_elim}
use Rattle.std.specs.Prelude.{◌==◌, ◌||◌, ◌&&◌, not, if◌then◌else◌, find, option_map}
use Rattle.std.specs.List.{AllByRecursion}
use Rattle.std.specs.Option.{option_map_or}
use Rattle.std.specs.Ordering.{nat_cmp}
use Rattle.std.specs.BTreeMap.{is_at}
use Rattle.std.specs.BTreeSet.{insert_key}
use Rattle.std.specs.Map.{set_value}
use Rattle.std.specs.Set.{remove_key}
use Rattle.std.proofs.lemmas.Bool.Decides.{nat_tests}
use Rattle.plain_model.specs.ActiveTransaction.{ActiveTransaction}
use Rattle.plain_model.specs.Machine.{State, transaction_of, with_transaction, without_transaction, least_other, least_free, is_stored}
use Rattle.plain_model.specs.History.{after_undo, IsId}
use Rattle.plain_laws.specs.Sound.{PassesAscend, Ascend}
use Rattle.plain_laws.proofs.Entries.{at, at_here, at_next, at-insert_same, at-insert_other, at-remove_same, at-remove_other, at-set_value_same, at-set_value_other, ascend-set_value, same_or_apart, some_same, unblocked}
use Rattle.plain_laws.proofs.Ids.{true_or_false, or_left, or_right, or_cases, stored-insert_same, stored-insert_more, stored-insert_cases, stored-remove_other, stored-remove_same, stored-remove_more}

-- ---- the client that stands in the way

-- p is the least client but this one whose transaction passes the test
pub record IsLeastOther (test : ActiveTransaction → Bool) (pass : ℕ) (active : List (ℕ × ActiveTransaction)) (p : ℕ) : Type 0 where
  pub apart : p ≢ pass
  pub transaction : ActiveTransaction
  pub found : at p active ≡ Some transaction
  pub passes : test transaction ≡ true
  pub least : (q : ℕ) (u : ActiveTransaction) → at q active ≡ Some u → q ≢ pass → test u ≡ true → p ≤ q

-- no client but this one has a transaction that passes the test
abbrev pub NoOther : (ActiveTransaction → Bool) → ℕ → List (ℕ × ActiveTransaction) → Type 0
NoOther test pass active = (q : ℕ) (u : ActiveTransaction) → at q active ≡ Some u → q ≢ pass → test u ≡ false

other_here : (test : ActiveTransaction → Bool) (pass : ℕ) (e : ℕ × ActiveTransaction) (es : List (ℕ × ActiveTransaction)) → e.0 ≢ pass → test e.1 ≡ true → least_other test pass (e ∷ es) ≡ Some e.0
other_here test pass e es n t = let f : (e.0 == pass) ≡ false = grind (arith, nat_tests, n) in rw (f, t)

other_self : (test : ActiveTransaction → Bool) (pass : ℕ) (e : ℕ × ActiveTransaction) (es : List (ℕ × ActiveTransaction)) → e.0 ≡ pass → least_other test pass (e ∷ es) ≡ least_other test pass es
other_self test pass e es s = let f : (e.0 == pass) ≡ true = grind (arith, nat_tests, s) in rw f

other_fails : (test : ActiveTransaction → Bool) (pass : ℕ) (e : ℕ × ActiveTransaction) (es : List (ℕ × ActiveTransaction)) → test e.1 ≡ false → least_other test pass (e ∷ es) ≡ least_other test pass es
other_fails test pass e es f =
    elim (e.0 == pass) as (λ b. option_map (λ (x : ℕ × ActiveTransaction). x.0) (cond (not b && test e.1) (Some e) (find (λ (x : ℕ × ActiveTransaction). not (x.0 == pass) && test x.1) es)) ≡ least_other test pass es) [ true ↦ refl | false ↦ rw f ]

-- a client after the others is above them
at_above : (n p : ℕ) (t : ActiveTransaction) (es : List (ℕ × ActiveTransaction)) → AllByRecursion (λ e. n < e.0) es → at p es ≡ Some t → n < p
at_above n p t [] a h = absurd (cc)
at_above n p t (e ∷ es) a h =
    let above : n < e.0 = a.0 in
    ⊎_elim (λ (s : p ≡ e.0). let l : n < p = omega arith in l) (λ (m : p ≢ e.0). at_above n p t es a.1 (sym (at_next p e es m) ∙ h)) (same_or_apart p e.0)

not_both : {X : Type 0} (b : Bool) → b ≡ true → b ≡ false → X
not_both b h k = absurd (cc)

-- the first entry passes
least_here : (test : ActiveTransaction → Bool) (pass : ℕ) (e : ℕ × ActiveTransaction) (es : List (ℕ × ActiveTransaction)) → AllByRecursion (λ x. e.0 < x.0) es → e.0 ≢ pass → test e.1 ≡ true → IsLeastOther test pass (e ∷ es) e.0
least_here test pass e es a n t = record {
  apart = n;
  transaction = e.1;
  found = at_here e.0 e es refl;
  passes = t;
  least = λ q u h m k.
      ⊎_elim
      (λ (s : q ≡ e.0). let l : e.0 ≤ q = omega arith in l)
      (λ (d : q ≢ e.0). let l : e.0 < q = at_above e.0 q u es a (sym (at_next q e es d) ∙ h) in let o : e.0 ≤ q = omega arith in o)
      (same_or_apart q e.0);
}

-- the first entry is this client's own, or fails the test
least_later : (test : ActiveTransaction → Bool) (pass p : ℕ) (e : ℕ × ActiveTransaction) (es : List (ℕ × ActiveTransaction)) → AllByRecursion (λ x. e.0 < x.0) es → (e.0 ≢ pass → test e.1 ≡ false) → IsLeastOther test pass es p → IsLeastOther test pass (e ∷ es) p
least_later test pass p e es a skip r =
    let above : e.0 < p = at_above e.0 p r.transaction es a r.found in
    record {
      apart = r.apart;
      transaction = r.transaction;
      found = at_next p e es (λ s. absurd (omega arith)) ∙ r.found;
      passes = r.passes;
      least = λ q u h m k.
          ⊎_elim
          (λ (s : q ≡ e.0). let same : u ≡ e.1 = some_same (at q (e ∷ es)) u e.1 (at_here q e es s) h in not_both (test u) k (ap test same ∙ skip (λ f. m (s ∙ f))))
          (λ (d : q ≢ e.0). r.least q u (sym (at_next q e es d) ∙ h) m k)
          (same_or_apart q e.0);
    }

pub least_other-is_least : (test : ActiveTransaction → Bool) (pass p : ℕ) (active : List (ℕ × ActiveTransaction)) → PassesAscend active → least_other test pass active ≡ Some p → IsLeastOther test pass active p
least_other-is_least test pass p [] a h = absurd (cc)
least_other-is_least test pass p (e ∷ es) a h =
    ⊎_elim
    (λ (s : e.0 ≡ pass). least_later test pass p e es a.0 (λ n. absurd (n s)) (least_other-is_least test pass p es a.1 (sym (other_self test pass e es s) ∙ h)))
    (λ (n : e.0 ≢ pass). ⊎_elim
    (λ (t : test e.1 ≡ true). let k = other_here test pass e es n t in let s : e.0 ≡ p = cc in subst (IsLeastOther test pass (e ∷ es)) s (least_here test pass e es a.0 n t))
    (λ (f : test e.1 ≡ false). least_later test pass p e es a.0 (λ m. f) (least_other-is_least test pass p es a.1 (sym (other_fails test pass e es f) ∙ h)))
    (true_or_false (test e.1)))
    (same_or_apart e.0 pass)

pub least_other-none : (test : ActiveTransaction → Bool) (pass : ℕ) (active : List (ℕ × ActiveTransaction)) → least_other test pass active ≡ None → NoOther test pass active
least_other-none test pass active h q u f n = unblocked test pass q u active h f n

pub least_other-found : (test : ActiveTransaction → Bool) (pass p : ℕ) (active : List (ℕ × ActiveTransaction)) → PassesAscend active → IsLeastOther test pass active p → least_other test pass active ≡ Some p
least_other-found test pass p active a r = by (least_other test pass active) refl
  where
    by : (o : Option ℕ) → least_other test pass active ≡ o → o ≡ Some p
    by None e = not_both (test r.transaction) r.passes (unblocked test pass p r.transaction active e r.found r.apart)
    by (Some q) e =
        let other = least_other-is_least test pass q active a e in
        let below : q ≤ p = other.least p r.transaction r.found r.apart r.passes in
        let above : p ≤ q = r.least q other.transaction other.found other.apart other.passes in
        let same : q ≡ p = omega arith in
        ap Some same

pub least_other-nobody : (test : ActiveTransaction → Bool) (pass : ℕ) (active : List (ℕ × ActiveTransaction)) → PassesAscend active → NoOther test pass active → least_other test pass active ≡ None
least_other-nobody test pass active a none = by (least_other test pass active) refl
  where
    by : (o : Option ℕ) → least_other test pass active ≡ o → o ≡ None
    by None e = refl
    by (Some q) e = let other = least_other-is_least test pass q active a e in not_both (test other.transaction) other.passes (none q other.transaction other.found other.apart)

-- ---- each client's transaction after a change

pub transaction_of-with_same : (s : State) (p : ℕ) (t : ActiveTransaction) → transaction_of (with_transaction s p t) p ≡ Some t
transaction_of-with_same s p t = at-insert_same p t s.active

pub transaction_of-with_other : (s : State) (p q : ℕ) (t : ActiveTransaction) → q ≢ p → transaction_of (with_transaction s p t) q ≡ transaction_of s q
transaction_of-with_other s p q t n = at-insert_other p q t s.active n

pub transaction_of-without_same : (s : State) (p : ℕ) → PassesAscend s.active → transaction_of (without_transaction s p) p ≡ None
transaction_of-without_same s p a = at-remove_same p s.active a

pub transaction_of-without_other : (s : State) (p q : ℕ) → q ≢ p → transaction_of (without_transaction s p) q ≡ transaction_of s q
transaction_of-without_other s p q n = at-remove_other p q s.active n

-- the transaction is being undone
abbrev pub marked_aborting : ActiveTransaction → ActiveTransaction
marked_aborting t = record t { aborting = true }

pub transaction_of-undo_same : (s : State) (p : ℕ) (t : ActiveTransaction) → transaction_of s p ≡ Some t → transaction_of (after_undo s p) p ≡ Some (marked_aborting t)
transaction_of-undo_same s p t e = rw e (at-set_value_same p (marked_aborting t) t s.active e)

pub transaction_of-undo_other : (s : State) (p q : ℕ) → q ≢ p → transaction_of (after_undo s p) q ≡ transaction_of s q
transaction_of-undo_other s p q n =
    elim (transaction_of s p) as (λ o. at q (option_map_or (λ t. set_value (is_at (nat_cmp p)) s.active (marked_aborting t)) o s.active) ≡ transaction_of s q) [ Some t ↦ at-set_value_other p q (marked_aborting t) s.active n | None ↦ refl ]

pub ascend-undo : (s : State) (p : ℕ) → PassesAscend s.active → PassesAscend (after_undo s p).active
ascend-undo s p a =
    elim (transaction_of s p) as (λ o. PassesAscend (option_map_or (λ t. set_value (is_at (nat_cmp p)) s.active (marked_aborting t)) o s.active)) [ Some t ↦ ascend-set_value p (marked_aborting t) s.active a | None ↦ a ]

-- ---- the least free id

-- the least id of the store that isn't stored
pub record IsLeastFree (stored : List ℕ) (ids id : ℕ) : Type 0 where
  pub within : IsId ids id
  pub free : is_stored stored id ≡ false
  pub below : (k : ℕ) → 0 < k → k < id → is_stored stored k ≡ true

-- the same of the n ids from i on
record IsFreeFrom (stored : List ℕ) (i n id : ℕ) : Type 0 where
  start : i ≤ id
  end : id < i + n
  free : is_stored stored id ≡ false
  below : (k : ℕ) → i ≤ k → k < id → is_stored stored k ≡ true

free_from : (stored : List ℕ) (i n id : ℕ) → least_free stored i n ≡ Some id → IsFreeFrom stored i n id
free_from stored i zero id h = absurd (cc)
free_from stored i (suc n) id h =
    elim (is_stored stored i) as (λ b. is_stored stored i ≡ b → (if b then least_free stored (i + 1) n else Some i) ≡ Some id → IsFreeFrom stored i (suc n) id) [
      | true ↦ λ e f.
          let r = free_from stored (i + 1) n id f in
          let s : i + 1 ≤ id = r.start in
          let l : id < i + 1 + n = r.end in
          record {
            start = omega arith;
            end = omega arith;
            free = r.free;
            below = λ k a b. ⊎_elim (λ (c : k ≡ i). subst (λ j. is_stored stored j ≡ true) (sym c) e) (λ (c : k ≢ i). r.below k (omega arith) b) (same_or_apart k i);
          }
      | false ↦ λ e f.
          let s : i ≡ id = cc in
          record { start = omega arith; end = omega arith; free = subst (λ j. is_stored stored j ≡ false) s e; below = λ k a b. absurd (omega arith) }
    ] refl h

all_from : (stored : List ℕ) (i n : ℕ) → least_free stored i n ≡ None → (k : ℕ) → i ≤ k → k < i + n → is_stored stored k ≡ true
all_from stored i zero h k a b = absurd (omega arith)
all_from stored i (suc n) h k a b =
    elim (is_stored stored i) as (λ t. is_stored stored i ≡ t → (if t then least_free stored (i + 1) n else Some i) ≡ None → is_stored stored k ≡ true) [
      | true ↦ λ e f. ⊎_elim (λ (c : k ≡ i). subst (λ j. is_stored stored j ≡ true) (sym c) e) (λ (c : k ≢ i). all_from stored (i + 1) n f k (omega arith) (omega arith)) (same_or_apart k i)
      | false ↦ λ e f. absurd (cc)
    ] refl h

pub free-least : (stored : List ℕ) (ids id : ℕ) → least_free stored 1 ids ≡ Some id → IsLeastFree stored ids id
free-least stored ids id h =
    let r = free_from stored 1 ids id h in
    let s : 1 ≤ id = r.start in
    let l : id < 1 + ids = r.end in
    record { within = (omega arith, omega arith); free = r.free; below = λ k a b. r.below k (omega arith) b }

pub free-none : (stored : List ℕ) (ids : ℕ) → least_free stored 1 ids ≡ None → (k : ℕ) → IsId ids k → is_stored stored k ≡ true
free-none stored ids h k w = let a = w.0 in let b = w.1 in all_from stored 1 ids h k (omega arith) (omega arith)

pub free-found : (stored : List ℕ) (ids id : ℕ) → IsLeastFree stored ids id → least_free stored 1 ids ≡ Some id
free-found stored ids id r = by (least_free stored 1 ids) refl
  where
    by : (o : Option ℕ) → least_free stored 1 ids ≡ o → o ≡ Some id
    by None e = not_both (is_stored stored id) (free-none stored ids e id r.within) r.free
    by (Some k) e =
        let other = free-least stored ids k e in
        let a = r.within.0 in
        let b = other.within.0 in
        let above : id < k → ⊥ = λ l. not_both (is_stored stored id) (other.below id a l) r.free in
        let below : k < id → ⊥ = λ l. not_both (is_stored stored k) (r.below k b l) other.free in
        let same : k ≡ id = grind (arith, above, below) in
        ap Some same

pub free-full : (stored : List ℕ) (ids : ℕ) → ((k : ℕ) → IsId ids k → is_stored stored k ≡ true) → least_free stored 1 ids ≡ None
free-full stored ids all = by (least_free stored 1 ids) refl
  where
    by : (o : Option ℕ) → least_free stored 1 ids ≡ o → o ≡ None
    by None e = refl
    by (Some k) e = let r = free-least stored ids k e in not_both (is_stored stored k) (all k r.within) r.free

-- ---- the stored ids after a change

same_answer : (a b : Bool) → (a ≡ true → b ≡ true) → (b ≡ true → a ≡ true) → a ≡ b
same_answer true b f g = sym (f refl)
same_answer false true f g = g refl
same_answer false false f g = refl

same_key : (a b : ℕ) → a ≡ b → (a == b) ≡ true
same_key a b e = grind (arith, nat_tests)

key_same : (a b : ℕ) → (a == b) ≡ true → a ≡ b
key_same a b e = grind (arith, nat_tests)

pub stored-insert : (stored : List ℕ) (id x : ℕ) → is_stored (insert_key nat_cmp stored id) x ≡ (x == id || is_stored stored x)
stored-insert stored id x = same_answer (is_stored (insert_key nat_cmp stored id) x) (x == id || is_stored stored x)
    (λ h. ⊎_elim (λ m. or_right (x == id) (is_stored stored x) m) (λ e. or_left (x == id) (is_stored stored x) (same_key x id e)) (stored-insert_cases id x stored h))
    (λ h. ⊎_elim (λ e. subst (λ y. is_stored (insert_key nat_cmp stored id) y ≡ true) (sym (key_same x id e)) (stored-insert_same id stored)) (λ m. stored-insert_more id x stored m) (or_cases (x == id) (is_stored stored x) h))

pub stored-remove : (stored : List ℕ) (id x : ℕ) → Ascend stored → is_stored (remove_key (is_at (nat_cmp id)) stored) x ≡ (not (x == id) && is_stored stored x)
stored-remove stored id x a =
    elim (x == id) as (λ b. x == id ≡ b → is_stored (remove_key (is_at (nat_cmp id)) stored) x ≡ (not b && is_stored stored x)) [
      | true ↦ λ e. subst (λ y. is_stored (remove_key (is_at (nat_cmp id)) stored) y ≡ false) (sym (key_same x id e)) (stored-remove_same id stored a)
      | false ↦ λ e. let n : x ≢ id = λ f. not_both (x == id) (same_key x id f) e in
          same_answer (is_stored (remove_key (is_at (nat_cmp id)) stored) x) (is_stored stored x) (λ h. stored-remove_more id x stored h) (λ h. stored-remove_other id x stored n h)
    ] refl
