-- What a verdict leaves of a round's parts.
use Rattle.std.proofs.Common.{◌≡◌, ℕ, ◌<◌, Bool, List, length, refl, sym, ap, ◌∙◌, subst, arith}
use Rattle.std.specs.Prelude.{Contains}
use Rattle.red_walk.specs.declared.red_at.RedAt.TheVariants as red
use Rattle.red_walk.specs.Walk.{Walk, next}
use Rattle.green_walk.specs.Judged.{Judged, Picks}
use Rattle.green_walk.specs.Sweeping.{SweepState as Sweep, IsSweep, started}
use Rattle.green_walk.specs.Greening.{Greening, IsGreening, started as green_started}
use Rattle.green_walk.proofs.PicksLaws.{picks-from}
use Rattle.core_store.specs.declared.round.Stage.{Stage}
use Rattle.core_store.specs.declared.round.Stage.TheVariants as stage
use Rattle.core_store.specs.declared.round_at.RoundAt.TheVariants as at
use Rattle.core_store.specs.RoundView.{Walking, Sweeping, asked}
use Rattle.core_store.specs.RoundInside.{view_of_round, AreInStep}
use Rattle.core_store.proofs.AskedLaws.{asked-judge}

-- the verdict is asked for by a walk
pub judge-asked : (a : Stage) (w : Walk) (s : Sweep) (slot : ℕ) (g : Greening) → asked (view_of_round a w s slot g) ≡ at.Judge → (a ≡ stage.Walking) × (next w ≡ red.Verdict)
judge-asked stage.Closed w s slot g e = absurd (cc)
judge-asked stage.Walking w s slot g e =
    let x = asked-judge (Walking w) e in
    let same : w ≡ x.0 = by x.0 x.1 in
    (refl, ap next same ∙ x.2)
  where
    by : (v : Walk) → Walking w ≡ Walking v → w ≡ v
    by v e = cc
judge-asked stage.Sweeping w s slot g e = let x = asked-judge (Sweeping w s slot g) e in absurd (by x.0 x.1)
  where
    by : (v : Walk) → Sweeping w s slot g ≡ Walking v → ⊥
    by v e = absurd (cc)

-- the sweep and the green walk begin
pub judged-in-step : (slots ids : ℕ) (a : Stage) (w : Walk) (locked row : List Bool) (i j : Judged) (s : Sweep) (slot : ℕ) (g : Greening) (P : ℕ → Type 0)
    → AreInStep slots ids a w locked i s slot g → IsSweep (started j.condemned ids) → IsGreening (green_started slots j w) → a ≡ stage.Walking → length row ≡ ids → j.limit ≡ ids → Picks P w.list j.live → Picks (λ id. P id → ⊥) w.list j.condemned
    → AreInStep slots ids stage.Sweeping w row j (started j.condemned ids) 0 (green_started slots j w)
judged-in-step slots ids a w locked row i j s slot g P k sweeps greens walks room limit live condemned =
    record {
      walk_sound = k.walk_sound;
      sweep_sound = sweeps;
      green_sound = greens;
      walk_limit = k.walk_limit;
      locked_limit = room;
      verdict_limit = limit;
      sweep_limit = refl;
      few = k.few;
      within = some;
      whole = λ other. absurd (cc);
      green_limit = k.walk_limit;
      green_slots = refl;
      left = λ e id m. subst (λ (xs : List ℕ). Contains xs id) (sym (k.whole walks)) (picks-from P live id m).0;
      spared = λ e id m n. (picks-from (λ x. P x → ⊥) condemned id n).1 (picks-from P live id m).1;
      at_rest = λ e other. refl;
    }
  where
    some : 0 < slots
    some = let below = k.within in omega (arith, below)
