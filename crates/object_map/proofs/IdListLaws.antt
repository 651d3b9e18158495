-- Lists of a few ids.
use Rattle.std.proofs.Common.{◌≡◌, ◌≢◌, ℕ, List, [], ◌∷◌, sym, subst, arith, ⊎_elim, ◌⊎◌, inl, inr, eqb}
use Rattle.std.specs.Prelude.{Contains}
use Rattle.std.specs.List.{IsDistinct}
use Rattle.std.proofs.lemmas.Bool.{ne_eqb}
use Rattle.std.proofs.lemmas.Map.Keys.{IsDistinct-cons}
use Rattle.store_model.proofs.Lists.{Contains-here, Contains-later}
use Rattle.store_model.proofs.StepLaws.{Contains-cons}

pub in_none : (x : ℕ) → Contains [] x → ⊥
in_none x h = absurd (omega (arith, h.1))

in_one : (a x : ℕ) → Contains (a ∷ []) x → x ≡ a
in_one a x h = ⊎_elim (λ (e : a ≡ x). sym e) (λ (n : Contains [] x). absurd (in_none x n)) (Contains-cons a [] x h)

pub in_two : (a b x : ℕ) → Contains (a ∷ b ∷ []) x → (x ≡ a) ⊎ (x ≡ b)
in_two a b x h = ⊎_elim (λ (e : a ≡ x). inl (sym e)) (λ (m : Contains (b ∷ []) x). inr (in_one b x m)) (Contains-cons a (b ∷ []) x h)

pub in_three : (a b c x : ℕ) → Contains (a ∷ b ∷ c ∷ []) x → (x ≡ a) ⊎ ((x ≡ b) ⊎ (x ≡ c))
in_three a b c x h = ⊎_elim (λ (e : a ≡ x). inl (sym e)) (λ (m : Contains (b ∷ c ∷ []) x). inr (in_two b c x m)) (Contains-cons a (b ∷ c ∷ []) x h)

first_in : (a x : ℕ) (xs : List ℕ) → x ≡ a → Contains (a ∷ xs) x
first_in a x xs e = subst (λ y. Contains (a ∷ xs) y) (sym e) (Contains-here a xs)

second_in : (a b x : ℕ) (xs : List ℕ) → x ≡ b → Contains (a ∷ b ∷ xs) x
second_in a b x xs e = Contains-later a (b ∷ xs) x (first_in b x xs e)

pub third_in : (a b c x : ℕ) (xs : List ℕ) → x ≡ c → Contains (a ∷ b ∷ c ∷ xs) x
third_in a b c x xs e = Contains-later a (b ∷ c ∷ xs) x (second_in b c x xs e)

pub front_in : (a b x : ℕ) (xs : List ℕ) → (x ≡ a) ⊎ (x ≡ b) → Contains (a ∷ b ∷ xs) x
front_in a b x xs w = ⊎_elim (λ (e : x ≡ a). first_in a x (b ∷ xs) e) (λ (e : x ≡ b). second_in a b x xs e) w

pub distinct_none : IsDistinct eqb []
unfolding IsDistinct
distinct_none = tt

pub distinct_two : (a b : ℕ) → a ≢ b → IsDistinct eqb (a ∷ b ∷ [])
distinct_two a b n = IsDistinct-cons eqb a (b ∷ []) (ne_eqb a b n, tt) (IsDistinct-cons eqb b [] tt distinct_none)

pub distinct_three : (a b c : ℕ) → a ≢ b → a ≢ c → b ≢ c → IsDistinct eqb (a ∷ b ∷ c ∷ [])
distinct_three a b c n m k = IsDistinct-cons eqb a (b ∷ c ∷ []) (ne_eqb a b n, (ne_eqb a c m, tt)) (distinct_two b c k)
