-- What a key has.
use Rattle.std.proofs.Common.{◌≡◌, ◌≢◌, ℕ, [], ◌∷◌, ◌++◌, Some, None, refl, sym, ◌∙◌, ⊎_elim, arith}
use Rattle.std.specs.List.{AllByRecursion}
use Rattle.std.proofs.lemmas.Bool.{cases_eq}
use Rattle.std.proofs.lemmas.Bool.Decides.{nat_tests}
use Rattle.plain_map.specs.Pairs.{Pairs, value_of}

pub value_here : (k : ℕ) (p : ℕ × ℕ) (ps : Pairs) → p.0 ≡ k → value_of k (p ∷ ps) ≡ Some p.1
value_here k p ps e = grind (arith, nat_tests)

pub value_next : (k : ℕ) (p : ℕ × ℕ) (ps : Pairs) → p.0 ≢ k → value_of k (p ∷ ps) ≡ value_of k ps
value_next k p ps e = grind (arith, nat_tests)

pub value_none : (k : ℕ) (ps : Pairs) → AllByRecursion (λ p. p.0 ≢ k) ps → value_of k ps ≡ None
value_none k [] h = refl
value_none k (p ∷ ps) h = value_next k p ps h.0 ∙ value_none k ps h.1

-- of two lists the first decides, where the other one hasn't the key
pub value_front : (k : ℕ) (ps qs : Pairs) → AllByRecursion (λ p. p.0 ≢ k) qs → value_of k (ps ++ qs) ≡ value_of k ps
value_front k [] qs h = value_none k qs h
value_front k (p ∷ ps) qs h =
    ⊎_elim
    (λ (e : p.0 ≡ k). value_here k p (ps ++ qs) e ∙ sym (value_here k p ps e))
    (λ (n : p.0 ≢ k). value_next k p (ps ++ qs) n ∙ value_front k ps qs h ∙ sym (value_next k p ps n))
    (cases_eq p.0 k)

pub value_back : (k : ℕ) (ps qs : Pairs) → AllByRecursion (λ p. p.0 ≢ k) ps → value_of k (ps ++ qs) ≡ value_of k qs
value_back k [] qs h = refl
value_back k (p ∷ ps) qs h = value_next k p (ps ++ qs) h.0 ∙ value_back k ps qs h.1
