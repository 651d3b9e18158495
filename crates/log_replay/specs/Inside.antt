-- The cells of a store in its pages.
use Rattle.std.specs.Prelude.{ℕ, ◌+◌, ◌*◌, ◌<◌, ◌≤◌, ◌==◌, false, if◌then◌else◌, List, [], length, map, slice_index_or}
use Rattle.std.specs.List.{range_with_len}
use Rattle.cell_model.specs.Cells.{Cell as StoredCell, blank_cell}
use Rattle.cell_page.specs.declared.cell.Cell.{Cell}
use Rattle.cell_page.specs.Format.{IsSlotCount, IsPage, free_cell, page_of_id, place_of}
use Rattle.cell_page.specs.Stored.{cell_of}

-- the cell of the id, as it stands in its page
abbrev pub held_at : {slots : ℕ} → List (List (Cell slots)) → ℕ → Cell slots
held_at {slots} pages id = slice_index_or (slice_index_or pages (page_of_id id) []) (place_of id) (free_cell slots 0)

-- and as the laws of a store see it; at 0, which is no id, stands a free one
abbrev pub stored_at : {slots : ℕ} → List (List (Cell slots)) → ℕ → StoredCell
stored_at {slots} pages id = if id == 0 then blank_cell false slots else cell_of (held_at pages id)

-- the cells of the pages, each at its id
unfoldable pub cells_of_pages : {slots : ℕ} → List (List (Cell slots)) → List StoredCell
cells_of_pages pages = map (stored_at pages) (range_with_len 0 (8 * length pages + 1))

-- the pages of a store: each obeys the rules for its number
pub record AreStorePages {slots : ℕ} (pages : List (List (Cell slots))) : Type 0 where
  pub slot_count : IsSlotCount slots
  pub some : 0 < length pages
  pub most : length pages ≤ 1024
  pub each : (p : ℕ) → p < length pages → IsPage p (slice_index_or pages p [])
