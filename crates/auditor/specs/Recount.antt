-- What a recount of all pointers finds, beside what the pages keep.
use Rattle.std.specs.Prelude.{◌≡◌, ℕ, ◌+◌, ◌*◌, ◌<◌, ◌&&◌, ◌==◌, Bool, not, if◌then◌else◌, List, [], ◌∷◌, length, slice_index, slice_index_or, slice_get, Some, count_by}
use Rattle.std.specs.List.{range_with_len, flat_map}
use Rattle.cell_model.specs.Cells.{Cell as StoredCell, cell_at, is_live, pointers_to, own_strong}
use Rattle.cell_page.specs.declared.cell.Cell.{Cell}
use Rattle.cell_page.specs.Format.{IsPage, place_of, free_cell, page_of_id}
use Rattle.core_store.specs.declared.frame.Frame.{Frame}
use Rattle.auditor.specs.declared.difference.Difference.{Difference}

-- two counts in one number
abbrev pub joined : ℕ → ℕ → ℕ
joined strong weak = strong * 4294967296 + weak

-- the strong pointers to the id: those with its bit, and the root's own
abbrev pub strong_found : List StoredCell → ℕ → ℕ
strong_found cells id = pointers_to cells id (cell_at cells id).bit + own_strong id

-- the weak pointers to the id: those with the other bit
abbrev pub weak_found : List StoredCell → ℕ → ℕ
weak_found cells id = pointers_to cells id (not (cell_at cells id).bit)

abbrev pub found_at : List StoredCell → ℕ → ℕ
found_at cells id = joined (strong_found cells id) (weak_found cells id)

-- the page in the frame of this number
abbrev pub page_in : {slots : ℕ} → List (Frame slots) → ℕ → List (Cell slots)
page_in frames page = (slice_index_or frames page (record { page = [] })).page

-- the counts that the id's frame keeps
abbrev pub kept_at : {slots : ℕ} → List (Frame slots) → ℕ → ℕ
kept_at {slots} frames id =
    let c = slice_index_or (page_in frames (page_of_id id)) (place_of id) (free_cell slots id) in
    joined c.strong c.weak

-- the ids of a store of so many pages
abbrev pub ids_of : ℕ → List ℕ
ids_of pages = range_with_len 1 (8 * pages)

-- the difference of two joined counts of the id, if there is one
abbrev pub difference_between : ℕ → ℕ → ℕ → List Difference
difference_between id kept found = if kept == found then [] else record { id = id; kept = kept; found = found } ∷ []

-- the difference at the id, if there is one
abbrev pub difference_at : {slots : ℕ} → List StoredCell → List (Frame slots) → ℕ → List Difference
difference_at cells frames id = difference_between id (kept_at frames id) (found_at cells id)

-- each id whose counts in its frame differ from what the recount finds, ascending
abbrev pub differences_of : {slots : ℕ} → List StoredCell → List (Frame slots) → List Difference
differences_of cells frames = flat_map (difference_at cells frames) (ids_of (length frames))

-- how many cells are live
abbrev pub live_in : List StoredCell → ℕ
live_in cells = count_by (λ c. c.live) cells

-- the id's cell is live, and no strong pointer is found to it
abbrev pub is_zero : List StoredCell → ℕ → Bool
is_zero cells id = is_live cells id && (strong_found cells id == 0)

-- how many of these ids have a live cell without strong pointers
abbrev pub zero_in : List StoredCell → List ℕ → ℕ
zero_in cells ids = count_by (is_zero cells) ids

-- the frames are pages of the grammar, one after another
abbrev pub ArePages : {slots : ℕ} → List (Frame slots) → Type 0
ArePages {slots} frames = (page : ℕ) (frame : Frame slots) → slice_get frames page ≡ Some frame → IsPage page frame.page

-- at each index the count is that of all pointers to the id with this bit
pub record AreCounted (cells : List StoredCell) (bit : Bool) (counts : List ℕ) : Type 0 where
  pub len : length counts ≡ length cells
  pub each : (id : ℕ) → id < length cells → slice_index counts id ≡ pointers_to cells id bit
