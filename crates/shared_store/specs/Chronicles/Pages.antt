-- The page of a store as the frame that holds it.
use Rattle.std.specs.Prelude.{◌≡◌, ℕ, ◌+◌, ◌*◌, ◌<◌, List, [], ◌∷◌, map}
use Rattle.std.specs.List.{AllByRecursion}
use Rattle.cell_model.specs.Cells.{Pointer, Cell as StoredCell, cell_at}
use Rattle.cell_page.specs.declared.cell.Cell.{Cell}
use Rattle.cell_page.specs.Format.{flag, first_id}
use Rattle.core_store.specs.declared.frame.Frame.{Frame}
use Rattle.core_store.specs.declared.three.HeldFrame.{HeldFrame}

-- the bits of the pointers as one number, that of the first slot being the lowest
abbrev pub bits_of : List Pointer → ℕ
bits_of [] = 0
bits_of (p ∷ ps) = flag p.bit + 2 * bits_of ps

-- the cell of this id as a page has it
abbrev pub page_cell : (slots : ℕ) → ℕ → StoredCell → Cell slots
page_cell slots id c =
    record {
      live = c.live;
      bit = c.bit;
      bits = bits_of c.pointers;
      id = id;
      strong = c.strong;
      weak = c.weak;
      payload = c.payload;
      slots = map (λ p. p.target) c.pointers;
    }

-- the places of the cells in a page
abbrev pub places : List ℕ
places = 0 ∷ 1 ∷ 2 ∷ 3 ∷ 4 ∷ 5 ∷ 6 ∷ 7 ∷ []

-- the page of this number in the store with these cells
abbrev pub page_in : (slots : ℕ) → List StoredCell → ℕ → List (Cell slots)
page_in slots cells page = map (λ place. page_cell slots (first_id page + place) (cell_at cells (first_id page + place))) places

abbrev pub frame_in : (slots : ℕ) → List StoredCell → ℕ → Frame slots
frame_in slots cells page = record { page = page_in slots cells page }

-- each held frame is the one that is told of its page
abbrev pub AreShownBy : {slots : ℕ} → (ℕ → Frame slots) → List (HeldFrame slots) → Type 0
AreShownBy frame held = AllByRecursion (λ h. h.frame ≡ frame h.page) held

-- each held page is one of a store with so many ids
abbrev pub AreOfStore : {slots : ℕ} → ℕ → List (HeldFrame slots) → Type 0
AreOfStore ids held = AllByRecursion (λ h. 8 * h.page < ids) held
