-- All pairs are the next pairs, one after another.
use Rattle.std.proofs.Common.{◌≡◌, ⊎_elim, ℕ, ◌+◌, ◌-◌, ◌<◌, ◌≤◌, true, false, List, [], ◌∷◌, ◌++◌, refl, sym, ap, ◌∙◌, subst, arith, append_assoc}
use Rattle.std.specs.Prelude.{nat_lt, not, ◌&&◌, ◌^◌, if◌then◌else◌, find, Option, None, Some}
use Rattle.std.specs.List.{AllByRecursion}
use Rattle.std.proofs.lemmas.Bool.{cases_lt}
use Rattle.std.proofs.lemmas.Bool.Decides.{nat_tests}
use Rattle.std.proofs.lemmas.List.{append-nil}
use Rattle.plain_model.specs.declared.object.Object.{Object}
use Rattle.plain_map.specs.Pairs.{Pairs, between, next_pair}
use Rattle.plain_map.specs.Laws.{between-next, between-none}
use Rattle.object_map.specs.Laws.{map-ascends}
use Rattle.plain_map.proofs.PairLaws.{all_append}
use Rattle.object_map.specs.Trees.{Tree, pairs_of, IsCritBit}
use Rattle.object_map.specs.Trees.Tree.{leaf, inner}
use Rattle.object_map.specs.Maps.{IsMap, StandsUnder, pairs_in as pairs_of_tree}

-- ---- the keys

fit_tree : (t : Tree) → IsCritBit t → AllByRecursion (λ p. p.0 < 2 ^ 64) (pairs_of t)
fit_tree (leaf id key cell value) c = (c, tt)
fit_tree (inner id bit low high) c = all_append (λ p. p.0 < 2 ^ 64) (pairs_of low) (pairs_of high) (fit_tree low c.1) (fit_tree high c.2)

fit_under : (at : ℕ → Option Object) (id : ℕ) (o : Option Tree) → StandsUnder at id o → AllByRecursion (λ p. p.0 < 2 ^ 64) (pairs_of_tree o)
fit_under at id None s = tt
fit_under at id (Some t) s = fit_tree t s.2.critical

pub keys_fit : (g : List Object) (ps : Pairs) → IsMap 13 g ps → AllByRecursion (λ p. p.0 < 2 ^ 64) ps
keys_fit g ps m = subst (λ (x : Pairs). AllByRecursion (λ p. p.0 < 2 ^ 64) x) (sym m.same) (fit_under _ _ m.tree m.stands)

-- ---- the pairs

test_within : (k high : ℕ) → k ≤ high → (not (nat_lt k 0) && not (nat_lt high k)) ≡ true
test_within k high l = grind (arith, nat_tests)

test_past : (k high : ℕ) → (not (nat_lt k (high + 1)) && not (nat_lt high k)) ≡ false
test_past k high = grind (arith, nat_tests)

-- from 0 on all pairs are to come
between_all : (high : ℕ) (ps : Pairs) → AllByRecursion (λ p. p.0 ≤ high) ps → between 0 high ps ≡ ps
between_all high [] a = refl
between_all high (p ∷ ps) a =
    let r = between_all high ps a.1 in
    ap (λ b. if b then p ∷ between 0 high ps else between 0 high ps) (test_within p.0 high a.0) ∙ ap (λ (qs : Pairs). p ∷ qs) r

-- past the greatest key none
between_past : (high : ℕ) (ps : Pairs) → between (high + 1) high ps ≡ []
between_past high [] = refl
between_past high (p ∷ ps) = ap (λ b. if b then p ∷ between (high + 1) high ps else between (high + 1) high ps) (test_past p.0 high) ∙ between_past high ps

abbrev pub greatest : ℕ
greatest = 18446744073709551615

few : (ps : Pairs) → AllByRecursion (λ p. p.0 < 2 ^ 64) ps → AllByRecursion (λ p. p.0 ≤ greatest) ps
few [] a = tt
few (p ∷ ps) a = (let l : p.0 < 2 ^ 64 = a.0 in omega (arith, l), few ps a.1)

pub all_from : (ps : Pairs) → AllByRecursion (λ p. p.0 < 2 ^ 64) ps → [] ++ between 0 greatest ps ≡ ps
all_from ps a = between_all greatest ps (few ps a)

pub one_more : (done ps rest : Pairs) (q : ℕ × ℕ) (key : ℕ) → done ++ between key greatest ps ≡ ps → between key greatest ps ≡ q ∷ rest → (done ++ q ∷ []) ++ rest ≡ ps
one_more done ps rest q key e f = append_assoc done (q ∷ []) rest ∙ (ap (λ (x : Pairs). done ++ x) (sym f) ∙ e)

pub all_done : (done ps : Pairs) (key : ℕ) → done ++ between key greatest ps ≡ ps → between key greatest ps ≡ [] → done ≡ ps
all_done done ps key e f = sym (append-nil done) ∙ (ap (λ (x : Pairs). done ++ x) (sym f) ∙ e)

pub last_done : (done ps : Pairs) (q : ℕ × ℕ) (key : ℕ) → done ++ between key greatest ps ≡ ps → between key greatest ps ≡ q ∷ between (q.0 + 1) greatest ps → q.0 ≡ greatest → done ++ q ∷ [] ≡ ps
last_done done ps q key e f g =
    let past : between (q.0 + 1) greatest ps ≡ [] = ap (λ k. between (k + 1) greatest ps) g ∙ between_past greatest ps in
    all_done (done ++ q ∷ []) ps (q.0 + 1) (one_more done ps (between (q.0 + 1) greatest ps) q key e f) past

-- ---- as they are listed

pair_same : (p q : ℕ × ℕ) → Some p ≡ Some q → p ≡ q
pair_same p q e = cc

next_fits : (key : ℕ) (ps : Pairs) (q : ℕ × ℕ) → AllByRecursion (λ p. p.0 < 2 ^ 64) ps → next_pair key ps ≡ Some q → q.0 < 2 ^ 64
next_fits key [] q a e = absurd (cc)
next_fits key (p ∷ ps) q a e =
    elim (not (nat_lt p.0 key)) as (λ b. (if b then Some p else find (λ (x : ℕ × ℕ). not (nat_lt x.0 key)) ps) ≡ Some q → q.0 < 2 ^ 64) [
      | true ↦ λ f. subst (λ (x : ℕ × ℕ). x.0 < 2 ^ 64) (pair_same p q f) a.0
      | false ↦ λ f. next_fits key ps q a.1 f
    ] e

is_above : (k key : ℕ) → not (nat_lt k key) ≡ true → key ≤ k
is_above k key h = grind (arith, nat_tests)

next_above : (key : ℕ) (ps : Pairs) (q : ℕ × ℕ) → next_pair key ps ≡ Some q → key ≤ q.0
next_above key [] q e = absurd (cc)
next_above key (p ∷ ps) q e =
    elim (not (nat_lt p.0 key)) as (λ b. not (nat_lt p.0 key) ≡ b → (if b then Some p else find (λ (x : ℕ × ℕ). not (nat_lt x.0 key)) ps) ≡ Some q → key ≤ q.0) [
      | true ↦ λ t f. subst (λ (x : ℕ × ℕ). key ≤ x.0) (pair_same p q f) (is_above p.0 key t)
      | false ↦ λ t f. next_above key ps q f
    ] refl e

-- these pairs come first, and those from the key on are to come
abbrev pub Comes : Pairs → ℕ → Pairs → Type 0
Comes done key ps = done ++ between key greatest ps ≡ ps

pub comes_first : (g : List Object) (ps done : Pairs) → IsMap 13 g ps → done ≡ [] → Comes done 0 ps
comes_first g ps done m e = ap (λ (l : Pairs). l ++ between 0 greatest ps) e ∙ all_from ps (keys_fit g ps m)

-- there is no next pair
pub comes_none : between-none → (done ps : Pairs) (key : ℕ) (found : Option (ℕ × ℕ)) → Comes done key ps → found ≡ next_pair key ps → found ≡ None → done ≡ ps
comes_none law done ps key found c f n = all_done done ps key c (law key greatest ps (sym f ∙ n))

module _ (ascends : map-ascends) (law : between-next) (g : List Object) (done ps now : Pairs) (key : ℕ) (q : ℕ × ℕ) (found : Option (ℕ × ℕ)) (m : IsMap 13 g ps) (c : Comes done key ps) (f : found ≡ next_pair key ps) (s : found ≡ Some q) (p : now ≡ done ++ q ∷ []) where
  fits : q.0 < 2 ^ 64
  fits = next_fits key ps q (keys_fit g ps m) (sym f ∙ s)

  parts : between key greatest ps ≡ q ∷ between (q.0 + 1) greatest ps
  parts = law key greatest q ps (ascends 13 g ps m) (sym f ∙ s) (let l = fits in omega (arith, l))

  -- it is one more
  pub comes_more : (next : ℕ) → next ≡ q.0 + 1 → Comes now next ps
  comes_more next e = ap (λ (l : Pairs). l ++ between next greatest ps) p ∙ (ap (λ k. (done ++ q ∷ []) ++ between k greatest ps) e ∙ one_more done ps (between (q.0 + 1) greatest ps) q key c parts)

  -- it is the last one
  pub comes_last : (q.0 + 1 < 2 ^ 64 → ⊥) → now ≡ ps
  comes_last n = p ∙ last_done done ps q key c parts (is_last n)
    where
      is_last : (q.0 + 1 < 2 ^ 64 → ⊥) → q.0 ≡ greatest
      is_last k = ⊎_elim (λ (l : q.0 + 1 < 2 ^ 64). absurd (k l)) (λ (l : 2 ^ 64 ≤ q.0 + 1). (let h = fits in omega (arith, l, h))) (cases_lt (q.0 + 1) (2 ^ 64))

  -- the next key is above this one
  pub nearer : (next : ℕ) → next ≡ q.0 + 1 → next < 2 ^ 64 → 2 ^ 64 - next < 2 ^ 64 - key
  nearer next e l = (let low : key ≤ q.0 = next_above key ps q (sym f ∙ s) in omega (arith, low, e, l))
