-- The transactions that haven't ended, when one of them changes.
use Rattle.std.proofs.Common.{◌≡◌, ◌≢◌, ℕ, List, [], ◌∷◌, refl, sym, ap, ◌∙◌, Some, arith, ⊎_elim, ◌⊎◌, Result, Ok, Err, OnErr}
use Rattle.std.specs.Map.{set_value}
use Rattle.std.specs.Ordering.{nat_cmp}
use Rattle.std.specs.BTreeMap.{is_at}
use Rattle.std.proofs.lemmas.Bool.Decides.{nat_tests}
use Rattle.restart_laws.specs.Unended.{Unended, unended_at}

same_or_apart : (p q : ℕ) → (p ≡ q) ⊎ (p ≢ q)
same_or_apart p q = grind (arith, nat_tests)

pub at_here : (p : ℕ) (e : ℕ × Unended) (es : List (ℕ × Unended)) → p ≡ e.0 → unended_at (e ∷ es) p ≡ Some e.1
at_here p e es h = grind (arith, nat_tests)

pub at_next : (p : ℕ) (e : ℕ × Unended) (es : List (ℕ × Unended)) → p ≢ e.0 → unended_at (e ∷ es) p ≡ unended_at es p
at_next p e es h = grind (arith, nat_tests)

pub set_here : (p : ℕ) (t : Unended) (e : ℕ × Unended) (es : List (ℕ × Unended)) → p ≡ e.0 → set_value (is_at (nat_cmp p)) (e ∷ es) t ≡ (e.0, t) ∷ es
set_here p t e es h = grind (arith, nat_tests)

pub set_next : (p : ℕ) (t : Unended) (e : ℕ × Unended) (es : List (ℕ × Unended)) → p ≢ e.0 → set_value (is_at (nat_cmp p)) (e ∷ es) t ≡ e ∷ set_value (is_at (nat_cmp p)) es t
set_next p t e es h = grind (arith, nat_tests)

-- the value that is there is set
pub set-own : (p : ℕ) (t : Unended) (es : List (ℕ × Unended)) → unended_at es p ≡ Some t → set_value (is_at (nat_cmp p)) es t ≡ es
set-own p t [] h = refl
set-own p t (e ∷ es) h =
    ⊎_elim
    (λ (a : p ≡ e.0). set_here p t e es a ∙ ap (λ (u : Unended). (e.0, u) ∷ es) (same (sym h ∙ at_here p e es a)))
    (λ (n : p ≢ e.0). set_next p t e es n ∙ ap (λ fs. e ∷ fs) (set-own p t es (sym (at_next p e es n) ∙ h)))
    (same_or_apart p e.0)
  where
    same : {a b : Unended} → Some a ≡ Some b → a ≡ b
    same {a} {b} h = cc

pub more_on_err : {T E : Type 0} (r : Result T E) (P Q : Type 0) → (P → Q) → OnErr r P → OnErr r Q
more_on_err (Ok v) P Q f h = tt
more_on_err (Err e) P Q f h = f h
