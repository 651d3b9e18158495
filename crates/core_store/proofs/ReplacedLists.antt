-- The last item of a list.
use Rattle.std.proofs.Common.{◌≡◌, ℕ, ◌+◌, ◌-◌, List, [], ◌∷◌, ◌++◌, refl, sym, ap, subst, ◌∙◌, Option, Some, None, inl, inr, ◌⊎◌, arith, length, take}
use Rattle.std.specs.Prelude.{suc, slice_get, Contains}
use Rattle.std.specs.List.{last_or}
use Rattle.std.proofs.lemmas.List.Elements.{Contains-push}
use Rattle.std.proofs.Math.Seq.{take-append-add}

pub last_or-push : {A : Type 0} (o : Option A) (xs : List A) (x : A) → last_or o (xs ++ x ∷ []) ≡ Some x
last_or-push o [] x = refl
last_or-push o (y ∷ ys) x = last_or-push (Some y) ys x

pub slice_get-last : {A : Type 0} (xs : List A) → slice_get xs (length xs - 1) ≡ last_or None xs
slice_get-last [] = refl
slice_get-last (x ∷ []) = refl
slice_get-last (x ∷ y ∷ ys) = ap (slice_get (x ∷ y ∷ ys)) (one_less (length ys)) ∙ (ap (slice_get (y ∷ ys)) (less_one (length ys)) ∙ slice_get-last (y ∷ ys))
  where
    one_less : (n : ℕ) → suc (suc n) - 1 ≡ suc n
    one_less n = omega arith

    less_one : (n : ℕ) → n ≡ suc n - 1
    less_one n = omega arith

-- a list and its last item
pub record HasLast {A : Type 0} (xs : List A) : Type 0 where
  pub front : List A
  pub last : A
  pub split : xs ≡ front ++ last ∷ []

pub ends : {A : Type 0} (xs : List A) → (xs ≡ []) ⊎ HasLast xs
ends [] = inl refl
ends {A} (x ∷ xs) = inr (by (ends xs))
  where
    by : (xs ≡ []) ⊎ HasLast xs → HasLast (x ∷ xs)
    by (inl e) = record { front = []; last = x; split = ap (λ r. x ∷ r) e }
    by (inr h) = record { front = x ∷ h.front; last = h.last; split = ap (λ r. x ∷ r) h.split }

-- the items up to the one after the front
pub take-front_one : {A : Type 0} (front : List A) (x : A) (rest : List A) (n : ℕ) → length front + 1 ≡ n → take n (front ++ x ∷ rest) ≡ front ++ x ∷ []
take-front_one front x rest n h = ap (λ k. take k (front ++ x ∷ rest)) (omega (arith, h)) ∙ take-append-add front (x ∷ rest) 1

-- the last item is one of the list
pub last-contained : {A : Type 0} (xs : List A) (x : A) → last_or None xs ≡ Some x → Contains xs x
last-contained {A} xs x e = by (ends xs)
  where
    same : {a b : A} → Some a ≡ Some b → a ≡ b
    same {a} {b} h = cc

    by : (xs ≡ []) ⊎ HasLast xs → Contains xs x
    by (inl n) = let k : last_or None [] ≡ Some x = sym (ap (last_or None) n) ∙ e in absurd (cc)
    by (inr h) =
        let is : h.last ≡ x = same (sym (last_or-push None h.front h.last) ∙ (sym (ap (last_or None) h.split) ∙ e)) in
        subst (λ (y : A). Contains xs y) is (subst (λ (ys : List A). Contains ys h.last) (sym h.split) (Contains-push h.front h.last))
