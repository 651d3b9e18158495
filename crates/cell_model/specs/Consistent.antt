-- The cells of a store are consistent.
use Rattle.std.specs.Prelude.{◌≡◌, ℕ, suc, ◌<◌, true, false, List, length}
use Rattle.cell_model.specs.Cells.{Cell, blank_cell, cell_at, is_live, IsExact}
use Rattle.cell_model.specs.Strong.{HasNoStrongCycle}

-- the cells of a store are consistent, where its ids go from 1 to `ids` and each live cell has so many slots
pub record AreConsistent (slots ids : ℕ) (cells : List Cell) : Type 0 where
  -- counts are exact, and the slots of live cells name live cells
  pub exact : IsExact cells
  -- a free cell is empty
  pub empty : (id : ℕ) → id < length cells → is_live cells id ≡ false → cell_at cells id ≡ blank_cell false slots
  -- there is a cell for each id
  pub sized : length cells ≡ suc ids
  pub slotted : (id : ℕ) → is_live cells id ≡ true → length (cell_at cells id).pointers ≡ slots
  -- strong pointers form no cycle
  pub acyclic : HasNoStrongCycle cells
