-- Which objects keep a store rule, and which is the least that breaks one.
use Rattle.std.specs.Prelude.{◌≡◌, ◌≢◌, ℕ, ◌<◌, true, false, List, length, slice_index}
use Rattle.cell_model.specs.Cells.{Cell, blank_cell, cell_at, pointer_at, is_live, pointers_to}
use Rattle.restart_laws.specs.Rules.{BreaksRule}
use Rattle.std.specs.Prelude.{Bool}

-- no object breaks the rule of this number
abbrev pub IsKept : List Cell → ℕ → Type 0
IsKept cells rule = (id : ℕ) → BreaksRule cells rule id → ⊥

-- this is the least object that breaks it
pub record IsLeast (cells : List Cell) (rule id : ℕ) : Type 0 where
  pub breaks : BreaksRule cells rule id
  pub least : (x : ℕ) → x < id → BreaksRule cells rule x → ⊥

-- the slot is null or names a live object
abbrev pub NamesLiveAt : List Cell → ℕ → ℕ → Type 0
NamesLiveAt cells id slot = (pointer_at cells id slot).target ≢ 0 → is_live cells (pointer_at cells id slot).target ≡ true

-- the cell has so many slots, and where it is free it is empty
pub record IsFormedAt (slots : ℕ) (cells : List Cell) (id : ℕ) : Type 0 where
  pub slotted : length (cell_at cells id).pointers ≡ slots
  pub empty : is_live cells id ≡ false → cell_at cells id ≡ blank_cell false slots

-- at each index the count is that of all pointers of live cells to the id that have this bit
pub record AreCounted (cells : List Cell) (bit : Bool) (counts : List ℕ) : Type 0 where
  pub len : length counts ≡ length cells
  pub each : (id : ℕ) → id < length cells → slice_index counts id ≡ pointers_to cells id bit
