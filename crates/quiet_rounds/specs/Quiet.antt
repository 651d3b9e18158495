-- Rounds of the collector beside which no client is active: what holds of them at each moment.
use Rattle.std.specs.Prelude.{◌≡◌, ◌≢◌, ℕ, ◌<◌, true, false, List, [], length, slice_index_or, Contains, ◌⊎◌, ◌∷◌}
use Rattle.cell_model.specs.Cells.{Cell, cell_at, pointer_at, is_live}
use Rattle.store_model.specs.Core.{Core, Copy}
use Rattle.store_model.specs.Sound.{copy_of}
use Rattle.red_walk.specs.Walk.{Walk}
use Rattle.green_walk.specs.declared.copied_slots.CopiedSlot.{CopiedSlot}
use Rattle.cell_model.specs.Strong.{IsStrongAt}
use Rattle.green_walk.specs.declared.sweep.SweepAt.TheVariants.{End as SweepEnd}
use Rattle.green_walk.specs.Sweeping.{SweepState as Sweep, next as next_of_sweep, unfreed}
use Rattle.green_walk.specs.Greening.{Greening, GreenStage, AtSeed, AtInto, AtOut, waits}
use Rattle.core_store.specs.Changes.{is_counted_strong}
use Rattle.core_store.specs.RoundView.{RoundView, Closed, Walking, Sweeping}

-- no client is active
abbrev pub NoneActive : Core → Type 0
NoneActive c = c.moment.state.active ≡ []

-- the first slots of the object, so many, hold no strong pointer
abbrev pub HasNoStrongIn : List Cell → ℕ → ℕ → Type 0
HasNoStrongIn cells id n = (k : ℕ) → k < n → is_counted_strong cells (pointer_at cells id k) ≡ false

-- ---- before the verdict

-- no object of the round has a strong pointer to it; those that were walked have none out of them; and the copies are the cells
pub record IsQuietWalk (slots : ℕ) (cells : List Cell) (w : Walk) : Type 0 where
  pub untouched : w.touched ≡ []
  pub zero : (id : ℕ) → Contains w.list id → (cell_at cells id).strong ≡ 0
  pub walked : (place : ℕ) → place < w.place → place < length w.list → HasNoStrongIn cells (slice_index_or w.list place 0) slots
  pub here : w.place < length w.list → HasNoStrongIn cells (slice_index_or w.list w.place 0) w.slot
  pub copies : (id : ℕ) (copy : Copy) → Contains w.copies (id, copy) → copy ≡ copy_of (cell_at cells id)

-- ---- after the verdict

-- a pointer leads to the object from a live one that isn't in the list
abbrev pub HasOther : List Cell → List ℕ → ℕ → Type 0
HasOther cells list id = (u : ℕ) × (slot : ℕ) × (is_live cells u ≡ true) × (Contains list u → ⊥) × ((pointer_at cells u slot).target ≡ id)

-- the slot is still to be looked at for a pointer to the object that was flipped
abbrev pub IsToWeaken : GreenStage → ℕ → ℕ → ℕ → Type 0
IsToWeaken (AtInto flipped rest) id slot target = (target ≡ flipped) × ((s : CopiedSlot) × Contains rest s × (s.id ≡ id) × (s.slot ≡ slot))
IsToWeaken _ id slot target = ⊥

-- the slot of the green object at this place was looked at since it became green
abbrev pub WasWalked : Greening → GreenStage → ℕ → ℕ → Type 0
WasWalked g AtSeed place slot = place < g.walked
WasWalked g (AtInto flipped rest) place slot = place < g.walked
WasWalked g (AtOut at k) place slot = (place < at) ⊎ ((place ≡ at) × (slot < k))

-- the object is a seed that is to come, or green, or such an object leads to it over objects that live
pub data IsLedTo (cells : List Cell) (g : Greening) : ℕ → Type 0 where
  from_seed : (id : ℕ) → Contains g.seeds id → IsLedTo cells g id
  from_green : (id : ℕ) → Contains g.green id → IsLedTo cells g id
  over : (id slot : ℕ) → IsLedTo cells g id → Contains g.live (pointer_at cells id slot).target → IsLedTo cells g (pointer_at cells id slot).target

-- the copied slots tell what the slots of the live objects hold
pub record AreCopied (slots : ℕ) (cells : List Cell) (g : Greening) : Type 0 where
  pub tell : (s : CopiedSlot) → Contains g.copied s → Contains g.live s.id → (pointer_at cells s.id s.slot).target ≡ s.target
  pub all : (id slot : ℕ) → Contains g.live id → slot < slots → (s : CopiedSlot) × Contains g.copied s × (s.id ≡ id) × (s.slot ≡ slot)

-- a strong pointer leads to the object from one that doesn't wait
abbrev pub IsHeldStrongly : List Cell → Greening → ℕ → Type 0
IsHeldStrongly cells g id = (u : ℕ) × (slot : ℕ) × (waits g u ≡ false) × IsStrongAt cells u slot id

-- objects that aren't green have no strong pointer to them, and none out of them but to an object that was just flipped; green
-- ones have one from an object that doesn't wait, and those that were walked lead to no object that waits
pub record IsQuietSweep (cells : List Cell) (slots : ℕ) (w : Walk) (s : Sweep) (g : Greening) : Type 0 where
  pub zero : (id : ℕ) → Contains w.left id → (Contains g.green id → ⊥) → (cell_at cells id).strong ≡ 0
  pub none_out : (id slot : ℕ) → Contains w.left id → (Contains g.green id → ⊥) → is_counted_strong cells (pointer_at cells id slot) ≡ true → IsToWeaken g.stage id slot (pointer_at cells id slot).target
  pub green : (id : ℕ) → Contains g.green id → IsHeldStrongly cells g id
  pub seeds : (id : ℕ) → Contains g.seeds id → HasOther cells w.list id
  pub copied : AreCopied slots cells g
  pub current : (g.current ≡ true) × (g.changed ≡ false)
  pub walked : (place slot : ℕ) → WasWalked g g.stage place slot → place < length g.green → waits g (pointer_at cells (slice_index_or g.green place 0) slot).target ≡ false
  pub at_seed : g.stage ≡ AtSeed → g.walked ≡ length g.green
  -- the seed in hand is green from its look on
  pub in_hand : g.stage ≢ AtSeed → (id : ℕ) (ids : List ℕ) → g.seeds ≡ id ∷ ids → Contains g.green id
  pub led : (id : ℕ) → Contains g.live id → IsLedTo cells g id
  -- what is left of the round is condemned or lives
  pub parted : (id : ℕ) → Contains w.left id → Contains (unfreed s) id ⊎ Contains g.live id
  -- the green walk begins after the sweep
  pub sweeping : next_of_sweep s ≢ SweepEnd → (g.stage ≡ AtSeed) × (g.green ≡ [])

-- ---- together

-- what holds of a round that was quiet since it opened
abbrev pub IsQuietRound : ℕ → List Cell → RoundView → Type 0
IsQuietRound slots cells Closed = Unit {0}
IsQuietRound slots cells (Walking w) = IsQuietWalk slots cells w
IsQuietRound slots cells (Sweeping w s slot g) = IsQuietSweep cells slots w s g
