-- What is among the ids of a list.
use Rattle.std.proofs.Common.{◌≡◌, ◌≢◌, ℕ, zero, suc, ◌<◌, true, false, List, [], ◌∷◌, length, get_or, sym, ◌∙◌, subst, arith, ⊎_elim, true≢false, ne_eqb}
use Rattle.std.specs.Prelude.{Contains}
use Rattle.std.proofs.lemmas.Bool.{cases_eq, false_from_ne_true}
use Rattle.std.proofs.lemmas.Bool.Decides.{nat_tests}
use Rattle.std.proofs.lemmas.List.{get_or_default}
use Rattle.store_model.proofs.Lists.{Contains-here, Contains-later}
use Rattle.ref_tables.specs.Queue.{has}

-- the first is among them
pub has-here : (x : ℕ) (xs : List ℕ) → has (x ∷ xs) x ≡ true
has-here x xs = grind (arith, nat_tests)

pub has-later : (y : ℕ) (xs : List ℕ) (x : ℕ) → has xs x ≡ true → has (y ∷ xs) x ≡ true
has-later y xs x h = grind (arith, nat_tests, h)

-- what stands at a place is among them
pub has-at : (xs : List ℕ) (x place : ℕ) → place < length xs → get_or xs place 0 ≡ x → has xs x ≡ true
has-at [] x place l e = absurd (omega (arith, l))
has-at (y ∷ ys) x zero l e = subst (λ z. has (y ∷ ys) z ≡ true) e (has-here y ys)
has-at (y ∷ ys) x (suc place) l e = has-later y ys x (has-at ys x place (omega (arith, l)) e)

-- the test and the relation
pub Contains-has : (xs : List ℕ) (x : ℕ) → has xs x ≡ true → Contains xs x
Contains-has [] x h = absurd (cc)
Contains-has (y ∷ ys) x h =
    ⊎_elim
    (λ (e : y ≡ x). subst (λ z. Contains (y ∷ ys) z) e (Contains-here y ys))
    (λ (n : y ≢ x). Contains-later y ys x (Contains-has ys x (let f = ne_eqb y x n in grind (arith, nat_tests, h, f))))
    (cases_eq y x)

pub has-Contains : (xs : List ℕ) (x : ℕ) → Contains xs x → has xs x ≡ true
has-Contains xs x (k, l, e) = has-at xs x k l (get_or_default xs k 0 x l ∙ e)

-- what isn't among them stands at no place
pub apart : (xs : List ℕ) (x place : ℕ) → has xs x ≡ false → place < length xs → get_or xs place 0 ≢ x
apart xs x place absent l e = true≢false (sym (has-at xs x place l e) ∙ absent)

pub absent : (xs : List ℕ) (x : ℕ) → (Contains xs x → ⊥) → has xs x ≡ false
absent xs x n = false_from_ne_true (has xs x) (λ h. n (Contains-has xs x h))
