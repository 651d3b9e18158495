-- In finitely many cells without a cycle of strong pointers, the way back along strong pointers ends, and it ends at the root.
use Rattle.std.proofs.Common.{◌≡◌, ◌≢◌, ℕ, zero, suc, ◌+◌, ◌<◌, ◌≤◌, List, [], ◌∷◌, true, cond, refl, ap, subst, length, arith, inl, inr, ⊎_elim}
use Rattle.std.specs.Prelude.{sum_by, Contains}
use Rattle.std.specs.List.{AllByRecursion}
use Rattle.std.proofs.lemmas.Bool.{cases_eq}
use Rattle.std.proofs.lemmas.List.Elements.{All-from_recursion, All-contains}
use Rattle.std.proofs.lemmas.List.Sums.{sum_by-cons}
use Rattle.plain_model.specs.Graphs.{root}
use Rattle.cell_model.specs.Cells.{Cell, cell_at, is_live}
use Rattle.cell_model.specs.Strong.{IsStrongAt, StrongPath, one, more, HasNoStrongCycle}
use Rattle.store_model.specs.RestLaws.{HasStrongIn, IsLed, LedLaw}
use Rattle.store_model.proofs.Lists.{each-more}
use Rattle.cell_model.proofs.EditLaws.{live-within}
use Rattle.store_model.proofs.VerdictLaws.{AllDistinct, sum-some}

-- a strong pointer, and then the walk from its target
pub path-before : (cells : List Cell) (u slot x : ℕ) → IsStrongAt cells u slot x → {y : ℕ} → StrongPath cells x y → StrongPath cells u y
path-before cells u slot x s (one next to t) = more x next to (one slot x s) t
path-before cells u slot x s (more via next to p t) = more via next to (path-before cells u slot x s p) t

-- ---- how many cells are live

-- 1 for a live cell, else 0
abbrev one_live : Cell → ℕ
one_live c = cond c.live 1 0

-- how many cells are live
abbrev live_number : List Cell → ℕ
live_number cells = sum_by one_live cells

sum-ones : (f : ℕ → ℕ) (ids : List ℕ) → AllByRecursion (λ v. f v ≡ 1) ids → sum_by f ids ≡ length ids
sum-ones f [] h = refl
sum-ones f (v ∷ vs) h = let a = sum_by-cons f v vs in let b = h.0 in let c = sum-ones f vs h.1 in omega (arith, a, b, c)

-- live ids, each once, are no more than the live cells
live-few : (cells : List Cell) (ids : List ℕ) → AllDistinct ids → AllByRecursion (λ v. is_live cells v ≡ true) ids → length ids ≤ live_number cells
live-few cells ids d l =
    let few = sum-some one_live refl ids d cells (each-more (λ v. is_live cells v ≡ true) (λ v. v < length cells) (live-within cells) ids l) in
    let ones = sum-ones (λ v. one_live (cell_at cells v)) ids (each-more (λ v. is_live cells v ≡ true) (λ v. one_live (cell_at cells v) ≡ 1) (λ v h. ap (λ b. cond b 1 0) h) ids l) in
    omega (arith, few, ones)

-- ---- the way back

-- live ids, each once, to each of which a walk of strong pointers leads from here
record IsTrail (cells : List Cell) (here : ℕ) (ids : List ℕ) : Type 0 where
  distinct : AllDistinct ids
  live : AllByRecursion (λ v. is_live cells v ≡ true) ids
  ahead : AllByRecursion (λ v. StrongPath cells here v) ids

module _ (cells : List Cell) (a : HasNoStrongCycle cells) (sources : (id : ℕ) → is_live cells id ≡ true → id ≢ root → HasStrongIn cells id) where
  -- where no walk leads back, the way back meets no id again
  unmet : (x : ℕ) (ids : List ℕ) → IsTrail cells x ids → Contains ids x → ⊥
  unmet x ids t m = a x (All-contains (StrongPath cells x) ids x (All-from_recursion (StrongPath cells x) ids t.ahead) m)

  -- one strong pointer further back
  longer : (u slot x : ℕ) (ids : List ℕ) → is_live cells x ≡ true → IsStrongAt cells u slot x → IsTrail cells x ids → IsTrail cells u (x ∷ ids)
  longer u slot x ids l s t = record {
    distinct = (unmet x ids t, t.distinct);
    live = (l, t.live);
    ahead = (one slot x s, each-more (StrongPath cells x) (StrongPath cells u) (λ v p. path-before cells u slot x s p) ids t.ahead);
  }

  -- n counts the live cells that the way back may still meet
  led-back : (n x : ℕ) (ids : List ℕ) → is_live cells x ≡ true → IsTrail cells x ids → live_number cells < n + length ids → IsLed cells x
  led-back zero x ids l t h = let few = live-few cells ids t.distinct t.live in absurd (omega (arith, few, h))
  led-back (suc n) x ids l t h =
      ⊎_elim
      (λ e. inl e)
      (λ r.
      let from = sources x l r in
      let s = from.2 in
      ⊎_elim
      (λ e. inr (one from.1 x (subst (λ v. IsStrongAt cells v from.1 x) e s)))
      (λ p. inr (more from.0 from.1 x p s))
      (led-back n from.0 (x ∷ ids) s.live (longer from.0 from.1 x ids l s t) (omega (arith, h))))
      (cases_eq x root)

pub led : LedLaw
led cells a sources id l = led-back cells a sources (suc (live_number cells)) id [] l (record { distinct = tt; live = tt; ahead = tt }) (omega arith)
