-- A change of an object that some client holds leaves what a sweep has emptied, and ends the test of an object.
use Rattle.std.proofs.Common.{◌≡◌, ℕ, ◌+◌, ◌-◌, ◌<◌, ◌≤◌, true, false, List, [], ◌∷◌, length, drop, get_or, sym, ap, ◌∙◌, subst, arith, true≢false, Option}
use Rattle.std.specs.Prelude.{Contains, fold, slice_index}
use Rattle.std.specs.Option.{option_map_or}
use Rattle.std.proofs.lemmas.List.{get_or-drop, get_or_default, length-drop}
use Rattle.plain_model.specs.ActiveTransaction.{ActiveTransaction}
use Rattle.plain_model.specs.History.{holds}
use Rattle.cell_model.specs.Cells.{Cell, Pointer, pointer_at, relinked}
use Rattle.store_model.specs.Core.{Round, Core, IsActive}
use Rattle.store_model.specs.Sound.{condemned_of, IsSound}
use Rattle.cell_model.proofs.CountLaws.{relinked-other}
use Rattle.green_walk.specs.Sweeping.{unfreed}
use Rattle.core_store.specs.RoundView.{RoundView, Closed, Walking, Sweeping, round_of, touched_in, IsInStep}
use Rattle.core_store.specs.Stands.{IsEmptied, IsTested}
use Rattle.core_store.proofs.SavedLaws.{saved-again}

-- what stands after the first n is among the rest
among-drop : (n : ℕ) (xs : List ℕ) (place : ℕ) → n ≤ place → place < length xs → Contains (drop n xs) (slice_index xs place)
among-drop n xs place l h =
    let len = length-drop n xs in
    let at : n + (place - n) ≡ place = omega (arith, l) in
    (place - n, omega (arith, len, l, h), get_or-drop n xs (place - n) (slice_index xs place) ∙ (ap (λ (i : ℕ). get_or xs i (slice_index xs place)) at ∙ get_or_default xs place (slice_index xs place) 0 h))

module _ (c : Core) (sound : IsSound c) (e : ℕ × ActiveTransaction) (active : IsActive c e) (cells : List Cell) (id slot : ℕ) (p : Pointer) (held : holds id e.1 ≡ true) where
  -- a condemned object is another one, and its slots are as before
  condemned-other : (x k : ℕ) → Contains (condemned_of c) x → pointer_at (relinked cells id slot p) x k ≡ pointer_at cells x k
  condemned-other x k among = relinked-other cells id slot p x k (λ same. true≢false (sym held ∙ subst (λ y. holds y e.1 ≡ false) same (sound.condemned.not_locked x among e active)))

  pub IsEmptied-relinked : (slots ids : ℕ) (v : RoundView) → IsInStep slots ids v → round_of v ≡ c.round → IsEmptied cells v → IsEmptied (relinked cells id slot p) v
  IsEmptied-relinked slots ids Closed step is emptied = tt
  IsEmptied-relinked slots ids (Walking w) step is emptied = tt
  IsEmptied-relinked slots ids (Sweeping w s from g) step is emptied =
      let left : unfreed s ≡ condemned_of c = ap (λ (o : Option Round). option_map_or (λ r. r.condemned) o []) is in (
        λ place k a b l. ap (λ (q : Pointer). q.target) (condemned-other (slice_index s.list place) k (subst (λ xs. Contains xs (slice_index s.list place)) left (among-drop s.freed s.list place a l))) ∙ emptied.0 place k a b l,
        λ k l b.
            let none : s.freed ≡ 0 = step.sweep.late l in
            ap (λ (q : Pointer). q.target) (condemned-other (slice_index s.list s.emptied) k (subst (λ xs. Contains xs (slice_index s.list s.emptied)) left (among-drop s.freed s.list s.emptied (omega (arith, none)) l))) ∙ emptied.1 k l b,
      )

-- a touch leaves a sweep
IsEmptied-touch : (cells : List Cell) (v : RoundView) (id : ℕ) → IsEmptied cells v → IsEmptied cells (touched_in v id)
IsEmptied-touch cells Closed id e = tt
IsEmptied-touch cells (Walking w) id e = tt
IsEmptied-touch cells (Sweeping w s slot g) id e = e

pub IsEmptied-touched : (cells : List Cell) (v : RoundView) (xs : List ℕ) → IsEmptied cells v → IsEmptied cells (fold touched_in v xs)
IsEmptied-touched cells v [] e = e
IsEmptied-touched cells v (x ∷ xs) e = IsEmptied-touched cells (touched_in v x) xs (IsEmptied-touch cells v x e)

-- a touch ends a test
IsTested-ended : (cells : List Cell) (v : RoundView) (id : ℕ) → IsTested cells (touched_in v id)
IsTested-ended cells Closed id = tt
IsTested-ended cells (Walking w) id = tt
IsTested-ended cells (Sweeping w s slot g) id = (tt, saved-again cells s g)

pub IsTested-touched : (cells : List Cell) (v : RoundView) (x : ℕ) (xs : List ℕ) → IsTested cells (fold touched_in v (x ∷ xs))
IsTested-touched cells v x [] = IsTested-ended cells v x
IsTested-touched cells v x (y ∷ ys) = IsTested-touched cells (touched_in v x) y ys
