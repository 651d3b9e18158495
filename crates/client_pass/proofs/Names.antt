-- Which names and truths the main pass has after a join.
use Rattle.std.proofs.Common.{◌≡◌, ◌⊎◌, inl, inr, ℕ, ◌==◌, Bool, true, false, List, [], ◌∷◌, refl, ap, ◌∙◌}
use Rattle.std.proofs.lemmas.Bool.{cases_eq, eq-eqb, ne_eqb, cond-true, cond-false, or_parts, or_from}
use Rattle.latch_table.specs.Views.{is_listed, without_name, truth_of}

-- a name that is taken out of the list
pub taken-out : (names : List ℕ) (out : ℕ) → is_listed (without_name names out) out ≡ false
taken-out [] out = refl
taken-out (x ∷ names) out = by (cases_eq x out) (taken-out names out)
  where
    by : (x ≡ out) ⊎ (x ≡ out → ⊥) → is_listed (without_name names out) out ≡ false → is_listed (without_name (x ∷ names) out) out ≡ false
    by (inl e) rest = ap (λ (ns : List ℕ). is_listed ns out) (cond-true (x == out) (without_name names out) (x ∷ without_name names out) (eq-eqb x out e)) ∙ rest
    by (inr ne) rest = ap (λ (ns : List ℕ). is_listed ns out) (cond-false (x == out) (without_name names out) (x ∷ without_name names out) (ne_eqb x out ne)) ∙ or_from (x == out) (is_listed (without_name names out) out) (ne_eqb x out ne) rest

-- one that isn't listed is listed no more when another is taken out
pub still-out : (names : List ℕ) (out name : ℕ) → is_listed names name ≡ false → is_listed (without_name names out) name ≡ false
still-out [] out name none = refl
still-out (x ∷ names) out name none = let parts = or_parts (x == name) (is_listed names name) none in by (cases_eq x out) parts.0 (still-out names out name parts.1)
  where
    by : (x ≡ out) ⊎ (x ≡ out → ⊥) → (x == name) ≡ false → is_listed (without_name names out) name ≡ false → is_listed (without_name (x ∷ names) out) name ≡ false
    by (inl e) first rest = ap (λ (ns : List ℕ). is_listed ns name) (cond-true (x == out) (without_name names out) (x ∷ without_name names out) (eq-eqb x out e)) ∙ rest
    by (inr ne) first rest = ap (λ (ns : List ℕ). is_listed ns name) (cond-false (x == out) (without_name names out) (x ∷ without_name names out) (ne_eqb x out ne)) ∙ or_from (x == name) (is_listed (without_name names out) name) first rest

-- after the split that gives this name and the join that takes it back
pub back-out : (names now : List ℕ) (given own : ℕ) → ((name : ℕ) → is_listed (given ∷ names) name ≡ false → is_listed now name ≡ false) → (name : ℕ) → is_listed names name ≡ false → is_listed (without_name (without_name now given) own) name ≡ false
back-out names now given own kept name none = by (cases_eq given name)
  where
    by : (given ≡ name) ⊎ (given ≡ name → ⊥) → is_listed (without_name (without_name now given) own) name ≡ false
    by (inl e) = still-out (without_name now given) own name (ap (λ (n : ℕ). is_listed (without_name now n) name) e ∙ taken-out now name)
    by (inr ne) = still-out (without_name now given) own name (still-out now given name (kept name (or_from (given == name) (is_listed names name) (ne_eqb given name ne) none)))

-- ---- what is true of a name

pub truth-own : (name : ℕ) (truth : Bool) (truths : List (ℕ × Bool)) → truth_of ((name, truth) ∷ truths) name ≡ truth
truth-own name truth truths = cond-true (name == name) truth (truth_of truths name) (eq-eqb name name refl)

pub truth-other : (name : ℕ) (truth : Bool) (truths : List (ℕ × Bool)) (other : ℕ) → (name ≡ other → ⊥) → truth_of ((name, truth) ∷ truths) other ≡ truth_of truths other
truth-other name truth truths other ne = cond-false (name == other) truth (truth_of truths other) (ne_eqb name other ne)
