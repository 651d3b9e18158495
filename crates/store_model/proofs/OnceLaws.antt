-- Lists that have no id twice.
use Rattle.std.proofs.Common.{◌≡◌, ℕ, zero, suc, ◌<◌, List, [], ◌∷◌, ◌++◌, refl, sym, ap, ◌∙◌, subst, length, arith, ⊎_elim}
use Rattle.std.specs.Prelude.{Contains, slice_index_or}
use Rattle.std.proofs.lemmas.List.{get_or_default}
use Rattle.std.proofs.lemmas.List.Elements.{Contains-append_cases}
use Rattle.store_model.specs.Sound.{IsOnce}
use Rattle.store_model.proofs.Lists.{Contains-here, Contains-later}
use Rattle.store_model.proofs.StepLaws.{Contains-cons}
use Rattle.store_model.proofs.VerdictLaws.{AllDistinct, distinct_from}

pub nothing-in : {X : Type 0} {Y : Type 0} (x : X) → Contains [] x → Y
nothing-in x h = let l = h.1 in absurd (omega (arith, l))

at_index : (xs : List ℕ) (j x : ℕ) → j < length xs → x ≡ slice_index_or xs j 0 → Contains xs x
at_index xs j x l e = (j, l, sym (get_or_default xs j 0 x l) ∙ sym e)

pub once_from : (xs : List ℕ) → AllDistinct xs → IsOnce xs
once_from [] d i j li lj e = absurd (omega (arith, li))
once_from (x ∷ xs) d zero zero li lj e = refl
once_from (x ∷ xs) d zero (suc j) li lj e = absurd (d.0 (at_index xs j x (omega (arith, lj)) e))
once_from (x ∷ xs) d (suc i) zero li lj e = absurd (d.0 (at_index xs i x (omega (arith, li)) (sym e)))
once_from (x ∷ xs) d (suc i) (suc j) li lj e = ap suc (once_from xs d.1 i j (omega (arith, li)) (omega (arith, lj)) e)

distinct-append : (xs ys : List ℕ) → AllDistinct xs → AllDistinct ys → ((x : ℕ) → Contains xs x → Contains ys x → ⊥) → AllDistinct (xs ++ ys)
distinct-append [] ys d e n = e
distinct-append (x ∷ xs) ys d e n = (
  λ h. ⊎_elim (λ k. d.0 k) (λ k. n x (Contains-here x xs) k) (Contains-append_cases xs ys x h),
  distinct-append xs ys d.1 e (λ y h k. n y (Contains-later x xs y h) k),
)

pub once-append : (xs ys : List ℕ) → IsOnce xs → IsOnce ys → ((x : ℕ) → Contains xs x → Contains ys x → ⊥) → IsOnce (xs ++ ys)
once-append xs ys d e n = once_from (xs ++ ys) (distinct-append xs ys (distinct_from xs d) (distinct_from ys e) n)

pub once-one : (x : ℕ) → IsOnce (x ∷ [])
once-one x = once_from (x ∷ []) ((λ h. nothing-in x h), tt)

pub only-one : (x y : ℕ) → Contains (x ∷ []) y → x ≡ y
only-one x y h = ⊎_elim (λ e. e) (λ k. nothing-in y k) (Contains-cons x [] y h)

pub once-push : (xs : List ℕ) (x : ℕ) → IsOnce xs → (Contains xs x → ⊥) → IsOnce (xs ++ x ∷ [])
once-push xs x d n = once-append xs (x ∷ []) d (once-one x) (λ y h k. n (subst (λ z. Contains xs z) (sym (only-one x y k)) h))

pub once-rest : (x : ℕ) (xs : List ℕ) → IsOnce (x ∷ xs) → IsOnce xs
once-rest x xs d = once_from xs (distinct_from (x ∷ xs) d).1

pub once-first : (x : ℕ) (xs : List ℕ) → IsOnce (x ∷ xs) → Contains xs x → ⊥
once-first x xs d = (distinct_from (x ∷ xs) d).0

pub once-none : IsOnce []
once-none i j li lj e = absurd (omega (arith, li))
