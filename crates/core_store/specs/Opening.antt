-- The frames that a store opens with, their cells, and its history then.
use Rattle.std.specs.Prelude.{◌≡◌, ℕ, ◌+◌, ◌<◌, [], ◌∷◌, List, length, map, false}
use Rattle.std.specs.List.{flat_map}
use Rattle.plain_model.specs.History.{History}
use Rattle.cell_model.specs.Cells.{Cell as StoredCell, blank_cell}
use Rattle.cell_model.specs.Graph.{graph_of}
use Rattle.cell_page.specs.declared.cell.Cell.{Cell}
use Rattle.cell_page.specs.Format.{IsPage}
use Rattle.cell_page.specs.Stored.{cell_of}
use Rattle.core_store.specs.declared.frame.Frame.{Frame}

-- each frame has a page that obeys the rules of its number, from 0 on
pub record ArePages {slots : ℕ} (frames : List (Frame slots)) : Type 0 where
  pub each : (page : ℕ) (d : Frame slots) → page < length frames → IsPage page (Rattle.std.specs.Prelude.slice_index_or frames page d).page

-- the cells of the frames, one page after another
abbrev pub cells_in : {slots : ℕ} → List (Frame slots) → List (Cell slots)
cells_in frames = flat_map (λ f. f.page) frames

-- there is a cell for each id from 1 on, in order, and it has its id
pub record AreByIds {slots : ℕ} (ids : ℕ) (cells : List (Cell slots)) : Type 0 where
  pub count : length cells ≡ ids
  pub each : (place : ℕ) (d : Cell slots) → place < ids → (Rattle.std.specs.Prelude.slice_index_or cells place d).id ≡ place + 1

-- the cells of a store, at the index of their ids: those from id 1 on stand after a free one
abbrev pub store_of : {slots : ℕ} → List (Cell slots) → List StoredCell
store_of {slots} cells = blank_cell false slots ∷ map cell_of cells

-- those of the frames, as a store has them
abbrev pub stored_in : {slots : ℕ} → List (Frame slots) → List StoredCell
stored_in frames = store_of (cells_in frames)

-- nothing has happened, and the opening graph is that of these cells
abbrev pub opened_history : ℕ → ℕ → List StoredCell → History
opened_history slots ids cells = record { ids = ids; slots = slots; opening = graph_of cells; entries = [] }
