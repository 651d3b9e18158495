-- Looks of the green walk that are saved, and what is known for which nothing would be found at them.
use Rattle.std.specs.Prelude.{◌≡◌, ◌≢◌, ℕ, ◌<◌, true, false, List, length, slice_index_or, Contains, ◌⊎◌}
use Rattle.cell_model.specs.Cells.{Cell, cell_at, pointer_at}
use Rattle.green_walk.specs.declared.copied_slots.CopiedSlot.{CopiedSlot}
use Rattle.green_walk.specs.declared.sweep.SweepAt.TheVariants.{End}
use Rattle.green_walk.specs.Sweeping.{SweepState as Sweep, next as next_of_sweep}
use Rattle.green_walk.specs.Greening.{Greening, GreenStage, AtSeed, AtInto, AtOut, waits}
use Rattle.core_store.specs.Changes.{is_counted_strong, has_no_strong}

-- a strong pointer leads out of the object to another one than the walk has just flipped
pub record HasOut (cells : List Cell) (stage : GreenStage) (id : ℕ) : Type 0 where
  pub slot : ℕ
  pub strong : is_counted_strong cells (pointer_at cells id slot) ≡ true
  pub apart : (flipped : ℕ) (rest : List CopiedSlot) → stage ≡ AtInto flipped rest → (pointer_at cells id slot).target ≢ flipped

-- there is nothing to do at a pointer to the object: it doesn't wait, or a strong pointer leads to it, or one leads out of it
abbrev pub IsSpent : List Cell → Greening → GreenStage → ℕ → Type 0
IsSpent cells g stage id = waits g id ≡ true → has_no_strong (cell_at cells id) ≡ true → HasOut cells stage id

-- the walk of green objects has passed this slot of the green object at this place
abbrev pub WasPassed : ℕ → GreenStage → ℕ → ℕ → Type 0
WasPassed walked (AtOut at k) place slot = (place < at) ⊎ ((place ≡ at) × (slot < k))
WasPassed walked _ place slot = place < walked

-- what the marks tell by which looks are saved is true
pub record AreSaved (cells : List Cell) (s : Sweep) (g : Greening) : Type 0 where
  -- where the copies are said to be current, they tell what the slots of the live objects name
  pub current : g.current ≡ true → (c : CopiedSlot) → Contains g.copied c → Contains g.live c.id → (pointer_at cells c.id c.slot).target ≡ c.target
  -- where nothing is said to have changed, there is nothing to do at the slots that were passed
  pub walked : g.changed ≡ false → (place slot : ℕ) → WasPassed g.walked g.stage place slot → place < length g.green → slot < g.slots → IsSpent cells g g.stage (pointer_at cells (slice_index_or g.green place 0) slot).target
  -- the walk begins after the sweep
  pub early : g.changed ≡ false → next_of_sweep s ≢ End → (g.stage ≡ AtSeed) × (g.walked ≡ 0)
