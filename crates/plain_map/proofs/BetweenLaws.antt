-- The pairs between two keys, from the next pair on.
use Rattle.std.proofs.Common.{◌≡◌, ℕ, ◌+◌, ◌<◌, ◌≤◌, [], ◌∷◌, Some, None, refl, sym, ap, ◌∙◌, subst, arith, ⊎_elim}
use Rattle.std.specs.Prelude.{Option, unwrap_or}
use Rattle.std.specs.List.{AllByRecursion}
use Rattle.std.proofs.lemmas.Bool.{cases_lt}
use Rattle.std.proofs.lemmas.Bool.Decides.{nat_tests}
use Rattle.plain_map.specs.Pairs.{Pairs, next_pair, between}
use Rattle.plain_map.specs.Laws.{between-next, between-past, between-none}
use Rattle.plain_map.proofs.PairLaws.{above_more}
use Rattle.plain_map.proofs.NextLaws.{next_below, next_here}

between_below : (low high : ℕ) (p : ℕ × ℕ) (ps : Pairs) → p.0 < low → between low high (p ∷ ps) ≡ between low high ps
between_below low high p ps h = grind (arith, nat_tests)

between_above : (low high : ℕ) (p : ℕ × ℕ) (ps : Pairs) → high < p.0 → between low high (p ∷ ps) ≡ between low high ps
between_above low high p ps h = grind (arith, nat_tests)

between_here : (low high : ℕ) (p : ℕ × ℕ) (ps : Pairs) → low ≤ p.0 → p.0 ≤ high → between low high (p ∷ ps) ≡ p ∷ between low high ps
between_here low high p ps h k = grind (arith, nat_tests)

-- above a key, it doesn't matter which of the keys up to it the range begins with
between_low : (low n high : ℕ) (ps : Pairs) → low ≤ n → AllByRecursion (λ p. n < p.0) ps → between low high ps ≡ between (n + 1) high ps
between_low low n high [] l h = refl
between_low low n high (p ∷ ps) l h =
    let m : n < p.0 = h.0 in
    let a : low ≤ p.0 = omega (arith, l, m) in
    let b : n + 1 ≤ p.0 = omega (arith, m) in
    ⊎_elim
    (λ (g : high < p.0). between_above low high p ps g ∙ between_low low n high ps l h.1 ∙ sym (between_above (n + 1) high p ps g))
    (λ (g : p.0 ≤ high). between_here low high p ps a g ∙ ap (λ qs. p ∷ qs) (between_low low n high ps l h.1) ∙ sym (between_here (n + 1) high p ps b g))
    (cases_lt high p.0)

-- above the high key there are none
between_high : (low high : ℕ) (ps : Pairs) → AllByRecursion (λ p. high < p.0) ps → between low high ps ≡ []
between_high low high [] h = refl
between_high low high (p ∷ ps) h = between_above low high p ps h.0 ∙ between_high low high ps h.1

abbrev or_zero : Option (ℕ × ℕ) → ℕ × ℕ
or_zero o = unwrap_or o (0, 0)

pair_same : (p q : ℕ × ℕ) → Some p ≡ Some q → p ≡ q
pair_same p q e = ap or_zero e

never : (q : ℕ × ℕ) → None ≡ Some q → ⊥
never q e = absurd (cc)

pub next_least : (k : ℕ) (q : ℕ × ℕ) (ps : Pairs) → next_pair k ps ≡ Some q → k ≤ q.0
next_least k q [] e = absurd (never q e)
next_least k q (p ∷ ps) e =
    ⊎_elim
    (λ (l : p.0 < k). next_least k q ps (sym (next_below k p ps l) ∙ e))
    (λ (g : k ≤ p.0). subst (λ (r : ℕ × ℕ). k ≤ r.0) (pair_same p q (sym (next_here k p ps g) ∙ e)) g)
    (cases_lt p.0 k)

pub between-next_proof : between-next
between-next_proof low high q [] a e h = absurd (never q e)
between-next_proof low high q (p ∷ ps) a e h =
    ⊎_elim
    (λ (l : p.0 < low).
    let f : next_pair low ps ≡ Some q = sym (next_below low p ps l) ∙ e in
    let g : low ≤ q.0 = next_least low q ps f in
    between_below low high p ps l ∙ between-next_proof low high q ps a.1 f h ∙ ap (λ qs. q ∷ qs) (sym (between_below (q.0 + 1) high p ps (omega (arith, l, g)))))
    (λ (g : low ≤ p.0).
    let same : p ≡ q = pair_same p q (sym (next_here low p ps g) ∙ e) in
    let its : (r : ℕ × ℕ) → p ≡ r → r.0 ≤ high → between low high (p ∷ ps) ≡ r ∷ between (r.0 + 1) high (p ∷ ps) = λ r s m.
    subst (λ (x : ℕ × ℕ). x.0 ≤ high → between low high (p ∷ ps) ≡ x ∷ between (x.0 + 1) high (p ∷ ps)) s
    (λ n. between_here low high p ps g n ∙ ap (λ qs. p ∷ qs) (between_low low p.0 high ps g a.0 ∙ sym (between_below (p.0 + 1) high p ps (omega arith)))) m in
    its q same h)
    (cases_lt p.0 low)

pub between-past_proof : between-past
between-past_proof low high q [] a e h = refl
between-past_proof low high q (p ∷ ps) a e h =
    ⊎_elim
    (λ (l : p.0 < low). between_below low high p ps l ∙ between-past_proof low high q ps a.1 (sym (next_below low p ps l) ∙ e) h)
    (λ (g : low ≤ p.0).
    let same : p ≡ q = pair_same p q (sym (next_here low p ps g) ∙ e) in
    let past : high < p.0 = subst (λ (r : ℕ × ℕ). high < r.0) (sym same) h in
    let less : high ≤ p.0 = omega (arith, past) in
    between_above low high p ps past ∙ between_high low high ps (above_more high p.0 ps less a.0))
    (cases_lt p.0 low)

some_never : (q : ℕ × ℕ) → Some q ≡ None → ⊥
some_never q e = absurd (cc)

pub between-none_proof : between-none
between-none_proof low high [] e = refl
between-none_proof low high (p ∷ ps) e =
    ⊎_elim
    (λ (l : p.0 < low). between_below low high p ps l ∙ between-none_proof low high ps (sym (next_below low p ps l) ∙ e))
    (λ (g : low ≤ p.0). absurd (some_never p (sym (next_here low p ps g) ∙ e)))
    (cases_lt p.0 low)

-- nor where the low key is above the high one
pub between_nothing : (low high : ℕ) (ps : Pairs) → high < low → between low high ps ≡ []
between_nothing low high [] l = refl
between_nothing low high (p ∷ ps) l =
    ⊎_elim
    (λ (b : p.0 < low). between_below low high p ps b ∙ between_nothing low high ps l)
    (λ (g : low ≤ p.0). between_above low high p ps (omega (arith, l, g)) ∙ between_nothing low high ps l)
    (cases_lt p.0 low)
