-- The cells after a log, by its records and the pages in place, and where a record doesn't fit a cell.
use Rattle.std.specs.Prelude.{◌≡◌, ℕ, ◌+◌, ◌*◌, ◌≤◌, false, List, [], ◌∷◌, ◌++◌, map}
use Rattle.std.specs.List.{range_with_len}
use Rattle.cell_model.specs.Cells.{Cell, blank_cell}
use Rattle.cell_page.specs.Format.{page_of_id, place_of}
use Rattle.page_area.specs.Place.{bytes_of_page}
use Rattle.cell_page.specs.Fields.{cell_in, bytes_at, FailsAt}
use Rattle.cell_page.specs.Stored.{cell_of}
use Rattle.log_record.specs.declared.record.Record.{Record}
use Rattle.log_record.specs.declared.record.Record.TheVariants.{OfCells, Image, Turn}
use Rattle.log_record.specs.Records.{record_of}
use Rattle.restart_laws.specs.Local.{Item, OfCells as CellsItem, Image as ImageItem, FitsAt, replayed, has_image}

-- what a record is to the cells
abbrev pub items_of : {slots : ℕ} → List (Record slots) → List Item
items_of [] = []
items_of (OfCells r ∷ rs) = CellsItem (record_of r) ∷ items_of rs
items_of (Image page cells ∷ rs) = ImageItem page (map cell_of cells) ∷ items_of rs
items_of (Turn version pages ∷ rs) = items_of rs

-- the cell of an id in place
abbrev pub cell_in_place : (slots : ℕ) → List ℕ → ℕ → Cell
cell_in_place slots area id = cell_of (cell_in slots (bytes_at slots (bytes_of_page slots (page_of_id id) area) (place_of id)))

-- the cell of an id after these records
abbrev pub cell_after : (slots : ℕ) → List ℕ → List (Record slots) → ℕ → Cell
cell_after slots area rs id = replayed slots id (cell_in_place slots area id) (items_of rs)

-- the cells of a store of so many pages after these records; index 0 is idle
abbrev pub cells_of_log : (slots pages : ℕ) → List ℕ → List (Record slots) → List Cell
cells_of_log slots pages area rs = blank_cell false slots ∷ map (cell_after slots area rs) (range_with_len 1 (8 * pages))

-- ---- pages without an image

-- The page has no image among the records, and its bytes in place are damaged at this place.
pub record IsDamagedPage {slots : ℕ} (area : List ℕ) (rs : List (Record slots)) (page at : ℕ) : Type 0 where
  pub no_image : has_image (8 * page + 1) (items_of rs) ≡ false
  pub fails : FailsAt slots page (bytes_of_page slots page area) at

-- ---- cells

-- The record fits each cell of the store whose page has no later image, where these records came before it and these come after
-- it.
abbrev pub FitsCellsOf : {slots : ℕ} → ℕ → List ℕ → List (Record slots) → Record slots → List (Record slots) → Type 0
FitsCellsOf {slots} pages area before (OfCells r) later =
    (id : ℕ) → 1 ≤ id → id ≤ 8 * pages → has_image id (items_of later) ≡ false → FitsAt (record_of r) id (cell_after slots area before id)
FitsCellsOf pages area before _ later = Unit {0}

-- so do all of these, one after another, where those came before them and the last ones come after them
abbrev pub AllFitCells : {slots : ℕ} → ℕ → List ℕ → List (Record slots) → List (Record slots) → List (Record slots) → Type 0
AllFitCells pages area before [] later = Unit {0}
AllFitCells pages area before (r ∷ rs) later = FitsCellsOf pages area before r (rs ++ later) × AllFitCells pages area (before ++ r ∷ []) rs later
