-- An object, what its slot holds, and what the slot is to hold.
use Rattle.std.proofs.Common.{◌≡◌, ◌≢◌, ℕ, List, [], ◌∷◌, ◌++◌, Bool, sym, ap, subst, ⊎_elim, ne_eqb, eq-eqb}
use Rattle.std.specs.Prelude.{if◌then◌else◌}
use Rattle.std.specs.List.{AllByRecursion}
use Rattle.std.proofs.lemmas.Bool.{cases_eq}
use Rattle.core_store.specs.Logged.{if_any}

if_any-some : (a : ℕ) → a ≢ 0 → if_any a ≡ a ∷ []
if_any-some a n = ap (λ (t : Bool). if t then [] else a ∷ []) (ne_eqb a 0 n)

if_any-none : (a : ℕ) → a ≡ 0 → if_any a ≡ []
if_any-none a e = ap (λ (t : Bool). if t then [] else a ∷ []) (eq-eqb a 0 e)

-- what holds of each holds of those that aren't null
pub first-of : (P : ℕ → Type 0) (a b : ℕ) → AllByRecursion P (if_any a ++ if_any b) → a ≢ 0 → P a
first-of P a b h n = (subst (λ (xs : List ℕ). AllByRecursion P (xs ++ if_any b)) (if_any-some a n) h).0

pub second-of : (P : ℕ → Type 0) (a b : ℕ) → AllByRecursion P (if_any a ++ if_any b) → b ≢ 0 → P b
second-of P a b h n =
    ⊎_elim
    (λ e. last (subst (λ (xs : List ℕ). AllByRecursion P (xs ++ if_any b)) (if_any-none a e) h))
    (λ m. last (subst (λ (xs : List ℕ). AllByRecursion P (xs ++ if_any b)) (if_any-some a m) h).1)
    (cases_eq a 0)
  where
    last : AllByRecursion P (if_any b) → P b
    last g = (subst (AllByRecursion P) (if_any-some b n) g).0

-- and what holds of those holds of each
pub each-of : (P : ℕ → Type 0) (a b : ℕ) → (a ≢ 0 → P a) → (b ≢ 0 → P b) → AllByRecursion P (if_any a ++ if_any b)
each-of P a b f g =
    ⊎_elim
    (λ e. subst (λ (xs : List ℕ). AllByRecursion P (xs ++ if_any b)) (sym (if_any-none a e)) last)
    (λ n. subst (λ (xs : List ℕ). AllByRecursion P (xs ++ if_any b)) (sym (if_any-some a n)) (f n, last))
    (cases_eq a 0)
  where
    last : AllByRecursion P (if_any b)
    last = ⊎_elim (λ e. subst (AllByRecursion P) (sym (if_any-none b e)) tt) (λ n. subst (AllByRecursion P) (sym (if_any-some b n)) (g n, tt)) (cases_eq b 0)
