-- The live objects but the root that no strong pointer leads to.
use Rattle.std.proofs.Common.{◌≡◌, ◌≢◌, ℕ, zero, suc, ◌+◌, List, [], ◌∷◌, ◌++◌, Bool, true, false, refl, sym, ap, ◌∙◌, subst, arith, ⊎_elim, eq-eqb, ne_eqb}
use Rattle.std.specs.Prelude.{if◌then◌else◌, ◌&&◌, not, ◌==◌, Contains}
use Rattle.std.proofs.lemmas.Bool.{and_parts, and_from}
use Rattle.plain_model.specs.Graphs.{root}
use Rattle.cell_model.specs.Cells.{Cell, cell_at, is_live}
use Rattle.store_model.specs.Sound.{IsOnce}
use Rattle.store_model.proofs.Lists.{Contains-here, Contains-later}
use Rattle.store_model.proofs.StepLaws.{Contains-cons}
use Rattle.store_model.proofs.VerdictLaws.{AllDistinct}
use Rattle.store_model.proofs.OnceLaws.{nothing-in, once_from}
use Rattle.restart_laws.specs.Graph.{zeros_from, zeros_of}

-- the test
abbrev is_zero : ℕ → Cell → Bool
is_zero id c = c.live && (not (id == root) && (c.strong == 0))

-- an id that stands there is that of a cell with the test
pub record IsZeroAt (k : ℕ) (cs : List Cell) (x : ℕ) : Type 0 where
  pub place : ℕ
  pub at : k + place ≡ x
  pub test : is_zero x (cell_at cs place) ≡ true

one-more : (k : ℕ) (c : Cell) (cs : List Cell) (x : ℕ) → IsZeroAt (suc k) cs x → IsZeroAt k (c ∷ cs) x
one-more k c cs x h = record { place = suc h.place; at = (let a = h.at in omega (arith, a)); test = h.test }

zeros_from-only : (k : ℕ) (cs : List Cell) (x : ℕ) → Contains (zeros_from k cs) x → IsZeroAt k cs x
zeros_from-only k [] x h = nothing-in x h
zeros_from-only k (c ∷ cs) x h = by (is_zero k c) refl h (λ m. zeros_from-only (suc k) cs x m)
  where
    by : (b : Bool) → is_zero k c ≡ b → Contains ((if b then k ∷ [] else []) ++ zeros_from (suc k) cs) x → (Contains (zeros_from (suc k) cs) x → IsZeroAt (suc k) cs x) → IsZeroAt k (c ∷ cs) x
    by true q h rest = ⊎_elim
        (λ (e : k ≡ x). record { place = 0; at = omega (arith, e); test = subst (λ n. is_zero n c ≡ true) e q })
        (λ m. one-more k c cs x (rest m))
        (Contains-cons k (zeros_from (suc k) cs) x h)
    by false q h rest = one-more k c cs x (rest h)

zeros_from-all : (k : ℕ) (cs : List Cell) (i x : ℕ) → k + i ≡ x → is_zero x (cell_at cs i) ≡ true → Contains (zeros_from k cs) x
zeros_from-all k [] i x e h = cc
zeros_from-all k (c ∷ cs) zero x e h =
    let same : k ≡ x = omega (arith, e) in
    let yes : is_zero k c ≡ true = subst (λ n. is_zero n c ≡ true) (sym same) h in
    subst (λ b. Contains ((if b then k ∷ [] else []) ++ zeros_from (suc k) cs) x) (sym yes) (subst (λ n. Contains (k ∷ zeros_from (suc k) cs) n) same (Contains-here k (zeros_from (suc k) cs)))
zeros_from-all k (c ∷ cs) (suc i) x e h = by (is_zero k c) (zeros_from-all (suc k) cs i x (omega (arith, e)) h)
  where
    by : (b : Bool) → Contains (zeros_from (suc k) cs) x → Contains ((if b then k ∷ [] else []) ++ zeros_from (suc k) cs) x
    by true rest = Contains-later k (zeros_from (suc k) cs) x rest
    by false rest = rest

zeros_from-distinct : (k : ℕ) (cs : List Cell) → AllDistinct (zeros_from k cs)
zeros_from-distinct k [] = tt
zeros_from-distinct k (c ∷ cs) = by (is_zero k c) (zeros_from-distinct (suc k) cs)
  where
    by : (b : Bool) → AllDistinct (zeros_from (suc k) cs) → AllDistinct ((if b then k ∷ [] else []) ++ zeros_from (suc k) cs)
    by true rest = ((λ h. (let z = zeros_from-only (suc k) cs k h in let a = z.at in absurd (omega (arith, a)))), rest)
    by false rest = rest

-- ---- of all cells

pub zeros-once : (cells : List Cell) → IsOnce (zeros_of cells)
zeros-once cells = once_from (zeros_of cells) (zeros_from-distinct 0 cells)

pub zeros-all : (cells : List Cell) (id : ℕ) → is_live cells id ≡ true → id ≢ root → (cell_at cells id).strong ≡ 0 → Contains (zeros_of cells) id
zeros-all cells id l n z =
    let c = cell_at cells id in
    zeros_from-all 0 cells id id (omega arith) (and_from c.live (not (id == root) && (c.strong == 0)) l (and_from (not (id == root)) (c.strong == 0) (ap not (ne_eqb id root n)) (eq-eqb c.strong 0 z)))

pub zeros-only : (cells : List Cell) (id : ℕ) → Contains (zeros_of cells) id → (is_live cells id ≡ true) × (id ≢ root)
zeros-only cells id h =
    let z = zeros_from-only 0 cells id h in
    let c = cell_at cells z.place in
    let t = and_parts c.live (not (id == root) && (c.strong == 0)) z.test in
    let u = and_parts (not (id == root)) (c.strong == 0) t.1 in
    let at : z.place ≡ id = (let a = z.at in omega (arith, a)) in
    (subst (λ n. is_live cells n ≡ true) at t.0, λ e. (let no : not true ≡ true = ap not (sym (eq-eqb id root e)) ∙ u.0 in cc))
