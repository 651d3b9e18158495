-- Cells and pages as the laws of a store see them: each slot beside its pointer bit.
use Rattle.std.specs.Prelude.{◌≡◌, ℕ, ◌+◌, ◌/◌, ◌^◌, ◌==◌, true, false, if◌then◌else◌, List, [], ◌∷◌, map, take, drop, replicate, slice_index_or, slice_set}
use Rattle.std.specs.Int.{bit_at}
use Rattle.cell_model.specs.Cells.{Pointer, Cell as StoredCell, blank_cell}
use Rattle.cell_page.specs.declared.cell.Cell.{Cell}
use Rattle.cell_page.specs.Format.{IsPage, first_id, place_of}

-- the slots, the first of which has bit i
abbrev pub pointers_from : (bits i : ℕ) → List ℕ → List Pointer
pointers_from bits i [] = []
pointers_from bits i (target ∷ targets) = record { target = target; bit = bit_at bits i == 1 } ∷ pointers_from bits (i + 1) targets

-- the cell as laws see it: without its id, each slot with its pointer bit
abbrev pub cell_of : {slots : ℕ} → Cell slots → StoredCell
cell_of c =
    record { live = c.live; bit = c.bit; strong = c.strong; weak = c.weak; payload = c.payload; pointers = pointers_from c.bits 0 c.slots }

-- the cells of a page of a new store: on page 0 the root stands first, with the one strong pointer of its own
abbrev pub fresh_cells : (slots page : ℕ) → List StoredCell
fresh_cells slots page =
    if page == 0
    then record (blank_cell true slots) { strong = 1 } ∷ replicate 7 (blank_cell false slots)
    else replicate 8 (blank_cell false slots)

-- the cells of a page of the store
abbrev pub page_of : List StoredCell → ℕ → List StoredCell
page_of cells page = take 8 (drop (first_id page) cells)

-- what is held for this page of the store is a page that obeys the rules, with the store's cells
pub record HoldsPage {slots : ℕ} (cells : List StoredCell) (page : ℕ) (held : List (Cell slots)) : Type 0 where
  pub rules : IsPage page held
  pub same : map cell_of held ≡ page_of cells page

-- the cell of the id among those of its page
abbrev pub stored_at : List StoredCell → ℕ → StoredCell
stored_at cells id = slice_index_or cells (place_of id) (blank_cell false 0)

-- the cells of a page where f is applied to that of the id
abbrev pub edit_stored : List StoredCell → ℕ → (StoredCell → StoredCell) → List StoredCell
edit_stored cells id f = slice_set cells (place_of id) (f (stored_at cells id))

-- the cell but for its counts
abbrev pub without_counts : {slots : ℕ} → Cell slots → Cell slots
without_counts c = record c { strong = 0; weak = 0 }

-- the cell but for its pointers: of the pointer bits there stay those of no slot
abbrev pub without_pointers : {slots : ℕ} → Cell slots → Cell slots
without_pointers {slots} c = record c { bits = c.bits / 2 ^ slots; slots = [] }
