-- What a round is kept in.
use Rattle.std.specs.Prelude.{◌≡◌, ◌≢◌, ℕ, ◌<◌, ◌≤◌, Bool, true, false, List, length, slice_index, slice_index_or, Contains, None}
use Rattle.strict_locks.specs.Locks.{Table, holders_of, Holds}
use Rattle.red_walk.specs.Walk.{Walk, IsWalk}
use Rattle.green_walk.specs.Judged.{Judged}
use Rattle.green_walk.specs.declared.sweep.SweepAt.TheVariants as sweep
use Rattle.green_walk.specs.Sweeping.{SweepState as Sweep, IsSweep, next as next_of_sweep}
use Rattle.green_walk.specs.Greening.{Greening, IsGreening}
use Rattle.core_store.specs.declared.round.Stage.{Stage}
use Rattle.core_store.specs.declared.round.Stage.TheVariants as stage
use Rattle.core_store.specs.RoundView.{RoundView, Closed, Walking, Sweeping}

-- the round that these are
abbrev pub view_of_round : Stage → Walk → Sweep → ℕ → Greening → RoundView
view_of_round stage.Closed w s slot g = Closed
view_of_round stage.Walking w s slot g = Walking w
view_of_round stage.Sweeping w s slot g = Sweeping w s slot g

-- there is room for the same ids everywhere, nothing leaves a round before its verdict, and what holds of every walk, sweep and
-- green walk holds
pub record AreInStep (slots ids : ℕ) (at : Stage) (w : Walk) (locked : List Bool) (j : Judged) (s : Sweep) (slot : ℕ) (g : Greening) : Type 0 where
  pub walk_sound : IsWalk slots w
  pub sweep_sound : IsSweep s
  pub green_sound : IsGreening g
  pub walk_limit : w.limit ≡ ids
  pub locked_limit : length locked ≡ ids
  pub verdict_limit : j.limit ≡ ids
  pub sweep_limit : s.limit ≡ ids
  pub few : ids ≤ 8192
  pub within : slot < slots
  pub whole : at ≡ stage.Walking → w.left ≡ w.list
  pub green_limit : g.limit ≡ ids
  pub green_slots : g.slots ≡ slots
  -- after the verdict the green walk is over objects of the round that aren't condemned
  pub left : at ≡ stage.Sweeping → (id : ℕ) → Contains g.live id → Contains w.left id
  pub spared : at ≡ stage.Sweeping → (id : ℕ) → Contains g.live id → Contains s.list id → ⊥
  -- and tests begin after the sweep
  pub at_rest : at ≡ stage.Sweeping → next_of_sweep s ≢ sweep.End → g.test ≡ None

-- the row says of each object of the list whether some client holds a lock on it
pub record IsRowOf (locks : Table) (list : List ℕ) (row : List Bool) : Type 0 where
  pub locked : (place : ℕ) → place < length list → slice_index_or row place false ≡ true → (pass : ℕ) × Holds (holders_of locks (slice_index list place)) pass
  pub free : (place pass : ℕ) → place < length list → slice_index_or row place false ≡ false → Holds (holders_of locks (slice_index list place)) pass → ⊥
