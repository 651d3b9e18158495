-- What the verdict and the sweep are to the laws of a journal.
use Rattle.std.specs.Prelude.{◌≡◌, ℕ, ◌<◌, Bool, true, false, List, map, length, slice_index, slice_index_or, Contains, ◌↔◌}
use Rattle.plain_model.specs.ActiveTransaction.{ActiveTransaction}
use Rattle.plain_model.specs.History.{holds}
use Rattle.store_model.specs.Core.{Core, Round, is_named, IsActive}
use Rattle.store_model.specs.Sound.{IsOnce}
use Rattle.store_model.specs.Verdict.{IsSeed as IsRoundSeed, IsLive as IsRoundLive, IsCondemned}
use Rattle.store_model.specs.Steps.{IsWithout}
use Rattle.ref_tables.specs.Refs.{Table, entries_of, Names}
use Rattle.red_walk.specs.Walk.{Walk}
use Rattle.green_walk.specs.declared.sweep.SweepAt.TheVariants.{Slots, Free}
use Rattle.green_walk.specs.declared.sweep.Found.TheVariants.{Made}
use Rattle.green_walk.specs.Judged.{IsSeed, IsLive, Picks}
use Rattle.green_walk.specs.Sweeping.{SweepState, IsSweep, next, found, unfreed}

-- the walk is the journal's round, all of which was copied; the row has the journal's locks, and the table its names
pub record IsOf (c : Core) (r : Round) (w : Walk) (locks : List Bool) (refs : Table) : Type 0 where
  pub list : r.list ≡ w.list
  pub copies : r.copies ≡ w.copies
  pub touched : r.touched ≡ w.touched
  pub copied : map (λ e. e.0) r.copies ≡ r.list
  pub locked : (place : ℕ) → place < length w.list → (slice_index_or locks place false ≡ true) ↔ ((e : ℕ × ActiveTransaction) × IsActive c e × (holds (slice_index w.list place) e.1 ≡ true))
  pub named : (id : ℕ) → Contains w.list id → ((pass : ℕ) × Names (entries_of refs pass) id) ↔ (is_named c.refs id ≡ true)

abbrev pub SeedLaw : Type 0
SeedLaw = (c : Core) (r : Round) (w : Walk) (locks : List Bool) (refs : Table) → IsOf c r w locks refs → (id : ℕ) → Contains w.list id → IsSeed w locks refs id ↔ IsRoundSeed c r id

abbrev pub LiveLaw : Type 0
LiveLaw = (c : Core) (r : Round) (w : Walk) (locks : List Bool) (refs : Table) → IsOf c r w locks refs → (id : ℕ) → Contains w.list id → IsLive w (IsSeed w locks refs) id ↔ IsRoundLive c r id

-- what the verdict condemns is what a journal's verdict may condemn
abbrev pub CondemnedLaw : Type 0
CondemnedLaw =
    (c : Core) (r : Round) (w : Walk) (locks : List Bool) (refs : Table) → IsOf c r w locks refs → (condemned : List ℕ) → Picks (λ id. IsLive w (IsSeed w locks refs) id → ⊥) w.list condemned
    → (id : ℕ) → Contains condemned id ↔ IsCondemned c r id

-- an object whose references are removed is condemned, and none was freed yet
abbrev pub EmptyLaw : Type 0
EmptyLaw = (s : SweepState) (id : ℕ) → IsSweep s → next s ≡ Slots id → (unfreed s ≡ s.list) × Contains s.list id

-- an object that is freed was condemned, and is no more; all others are
abbrev pub FreeLaw : Type 0
FreeLaw = (s : SweepState) (id : ℕ) → IsSweep s → next s ≡ Free id → Contains (unfreed s) id × IsOnce (unfreed s) × IsWithout (unfreed s) id (unfreed (found s (Made id)))
