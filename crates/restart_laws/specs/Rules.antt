-- The rules that the cells of a store must keep, and which object is named where they are broken.
use Rattle.std.specs.Prelude.{◌≡◌, ◌≢◌, ℕ, suc, ◌<◌, true, false, List, length}
use Rattle.cell_model.specs.Cells.{Cell, blank_cell, cell_at, pointer_at, is_live, IsExactAt}
use Rattle.cell_model.specs.Strong.{StrongPath}

-- the object breaks the rule of this number
pub data BreaksRule (cells : List Cell) : ℕ → ℕ → Type 0 where
  -- it is the root, and isn't live
  no_root : is_live cells 1 ≡ false → BreaksRule cells 1 1
  -- it is live, and a slot of it names an object that isn't live
  names_none : (id slot : ℕ) → is_live cells id ≡ true → (pointer_at cells id slot).target ≢ 0 → is_live cells (pointer_at cells id slot).target ≡ false → BreaksRule cells 2 id
  -- it is live, and a count of it isn't the number of pointers that it counts
  miscounts : (id : ℕ) → is_live cells id ≡ true → (IsExactAt cells id → ⊥) → BreaksRule cells 3 id
  -- strong pointers lead from it back to it
  in_cycle : (id : ℕ) → StrongPath cells id id → BreaksRule cells 4 id

-- the least rule that is broken is this one, and this is the least object that breaks it
pub record IsFirstBroken (cells : List Cell) (rule id : ℕ) : Type 0 where
  pub breaks : BreaksRule cells rule id
  pub lower_kept : (r x : ℕ) → r < rule → BreaksRule cells r x → ⊥
  pub least : (x : ℕ) → x < id → BreaksRule cells rule x → ⊥

-- what pages tell by themselves: there is a cell for each id and none for 0, a free cell is empty, and each live cell has so many
-- slots
pub record AreOfPages (slots ids : ℕ) (cells : List Cell) : Type 0 where
  pub none : is_live cells 0 ≡ false
  pub sized : length cells ≡ suc ids
  pub empty : (id : ℕ) → id < length cells → is_live cells id ≡ false → cell_at cells id ≡ blank_cell false slots
  pub slotted : (id : ℕ) → is_live cells id ≡ true → length (cell_at cells id).pointers ≡ slots
