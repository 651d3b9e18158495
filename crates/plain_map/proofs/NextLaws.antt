-- The pair with the least key that isn't below a key.
use Rattle.std.proofs.Common.{◌≡◌, ℕ, ◌<◌, ◌≤◌, [], ◌∷◌, ◌++◌, Option, Some, None, refl, sym, ap, ◌∙◌, arith, ⊎_elim}
use Rattle.std.specs.Prelude.{not, nat_lt, unwrap_or}
use Rattle.std.specs.Option.{option_or}
use Rattle.std.specs.List.{AllByRecursion}
use Rattle.std.proofs.lemmas.Bool.{cases_lt}
use Rattle.std.proofs.lemmas.Bool.Decides.{nat_tests}
use Rattle.std.proofs.lemmas.List.Folds.{find-append}
use Rattle.plain_map.specs.Pairs.{Pairs, AscendByKey, value_of, next_pair, first_of}
use Rattle.plain_map.proofs.PairLaws.{above_none, above_more}
use Rattle.plain_map.proofs.ValueLaws.{value_here, value_next, value_none}

pub next_below : (k : ℕ) (p : ℕ × ℕ) (ps : Pairs) → p.0 < k → next_pair k (p ∷ ps) ≡ next_pair k ps
next_below k p ps h = grind (arith, nat_tests)

pub next_here : (k : ℕ) (p : ℕ × ℕ) (ps : Pairs) → k ≤ p.0 → next_pair k (p ∷ ps) ≡ Some p
next_here k p ps h = grind (arith, nat_tests)

pub next_none : (k : ℕ) (ps : Pairs) → AllByRecursion (λ p. p.0 < k) ps → next_pair k ps ≡ None
next_none k [] h = refl
next_none k (p ∷ ps) h = next_below k p ps h.0 ∙ next_none k ps h.1

pub next_first : (k : ℕ) (ps : Pairs) → AllByRecursion (λ p. k < p.0) ps → next_pair k ps ≡ first_of ps
next_first k [] h = refl
next_first k (p ∷ ps) h = next_here k p ps (let l : k < p.0 = h.0 in omega (arith, l))

pub next_append : (k : ℕ) (ps qs : Pairs) → next_pair k (ps ++ qs) ≡ option_or (next_pair k ps) (next_pair k qs)
next_append k ps qs = find-append (λ (p : ℕ × ℕ). not (nat_lt p.0 k)) ps qs

never_some : (v : ℕ) → Some v ≡ None → ⊥
never_some v e = absurd (cc)

some_same : (a b : ℕ) → Some a ≡ Some b → a ≡ b
some_same a b e = ap (λ o. unwrap_or o 0) e

-- where the key is there it is the next one
pub next_exact : (k v : ℕ) (ps : Pairs) → AscendByKey ps → Some v ≡ value_of k ps → Some (k, v) ≡ next_pair k ps
next_exact k v [] a e = absurd (never_some v e)
next_exact k v (p ∷ ps) a e =
    ⊎_elim
    (λ (l : p.0 < k). next_exact k v ps a.1 (e ∙ value_next k p ps (λ z. absurd (omega (arith, z, l)))) ∙ sym (next_below k p ps l))
    (λ (g : k ≤ p.0). ⊎_elim
    (λ (l : k < p.0). absurd (never_some v (e ∙ value_next k p ps (λ z. absurd (omega (arith, z, l))) ∙ value_none k ps (above_none k ps (above_more k p.0 ps g a.0)))))
    (λ (m : p.0 ≤ k).
    let same : p.0 ≡ k = omega (arith, g, m) in
    let value : v ≡ p.1 = some_same v p.1 (e ∙ value_here k p ps same) in
    ap (λ (x : ℕ). Some (x, v)) (sym same) ∙ ap (λ (x : ℕ). Some (p.0, x)) value ∙ sym (next_here k p ps g))
    (cases_lt k p.0))
    (cases_lt p.0 k)

-- the least key of all comes first
pub next_of_least : (ps : Pairs) → next_pair 0 ps ≡ first_of ps
next_of_least [] = refl
next_of_least (p ∷ ps) = next_here 0 p ps (omega arith)

-- ---- first pairs

pub first_append : (ps qs : Pairs) (q : ℕ × ℕ) → first_of ps ≡ Some q → first_of (ps ++ qs) ≡ Some q
first_append [] qs q e = absurd (cc)
first_append (p ∷ ps) qs q e = e

pub or_some : (a x : Option (ℕ × ℕ)) (q : ℕ × ℕ) → option_or (option_or a (Some q)) x ≡ option_or a (Some q)
or_some None x q = refl
or_some (Some p) x q = refl
