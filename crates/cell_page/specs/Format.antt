-- The page format: which bytes spell a page.
use Rattle.std.specs.Prelude.{◌≡◌, ℕ, ◌+◌, ◌*◌, ◌-◌, ◌/◌, ◌^◌, ◌<◌, ◌⊎◌, Bool, true, false, if◌then◌else◌, ◌==◌, ◌%◌, List, [], ◌∷◌, ◌++◌, length, map, replicate, slice_index, slice_index_or}
use Rattle.std.specs.Int.{w16, w32, w64, to_be_bytes, bit_at}
use Rattle.std.specs.List.{flat_map}
use Rattle.cell_page.specs.declared.cell.Cell.{Cell}

-- six slots, or fourteen
abbrev pub IsSlotCount : ℕ → Type 0
IsSlotCount slots = (slots ≡ 6) ⊎ (slots ≡ 14)

-- ---- bytes

-- the bytes of a cell's fields: 24, and four for each slot
abbrev pub fields_size : ℕ → ℕ
fields_size slots = 24 + 4 * slots

-- a cell takes the least power of two of bytes that holds its fields
abbrev pub cell_size : ℕ → ℕ
cell_size slots = if slots == 6 then 64 else 128

-- a page takes the bytes of eight cells
abbrev pub page_size : ℕ → ℕ
page_size slots = 8 * cell_size slots

-- a truth value as a number
abbrev pub flag : Bool → ℕ
flag false = 0
flag true = 1

-- the fields, one after another, the high byte of each number first
unfoldable pub field_bytes : {slots : ℕ} → Cell slots → List ℕ
field_bytes c =
    flag c.live ∷ flag c.bit ∷ [] ++ to_be_bytes w16 c.bits ++ to_be_bytes w32 c.id ++ to_be_bytes w32 c.strong ++ to_be_bytes w32 c.weak
    ++ to_be_bytes w64 c.payload ++ flat_map (to_be_bytes w32) c.slots

-- zero bytes fill a cell up
unfoldable pub cell_bytes : {slots : ℕ} → Cell slots → List ℕ
cell_bytes {slots} c = field_bytes c ++ replicate (cell_size slots - fields_size slots) 0

-- the bytes of a page: those of its cells, one after another
abbrev pub page_bytes : {slots : ℕ} → List (Cell slots) → List ℕ
page_bytes cells = flat_map cell_bytes cells

-- ---- rules

-- a free cell, in which all but the id is 0
abbrev pub free_cell : (slots id : ℕ) → Cell slots
free_cell slots id = record { live = false; bit = false; bits = 0; id = id; strong = 0; weak = 0; payload = 0; slots = replicate slots 0 }

-- the cell of the id obeys the rules
pub record IsCell {slots : ℕ} (id : ℕ) (c : Cell slots) : Type 0 where
  -- the id is that of the cell's place
  pub placed : c.id ≡ id
  -- in a free cell all else is 0
  pub free : c.live ≡ false → c ≡ free_cell slots id
  -- no pointer bit stands for a slot that isn't there
  pub bounded : c.bits < 2 ^ slots
  -- a null slot has the pointer bit 0
  pub null_bit : (slot : ℕ) → slot < slots → slice_index c.slots slot ≡ 0 → bit_at c.bits slot ≡ 0

-- page p, from 0, has the cells of the ids 8p + 1 to 8p + 8
abbrev pub first_id : ℕ → ℕ
first_id page = 8 * page + 1

-- the page of an id
abbrev pub page_of_id : ℕ → ℕ
page_of_id id = (id - 1) / 8

-- the cells of a page obey the rules
pub record IsPage {slots : ℕ} (page : ℕ) (cells : List (Cell slots)) : Type 0 where
  pub eight : length cells ≡ 8
  pub each : (place : ℕ) (d : Cell slots) → place < 8 → IsCell (first_id page + place) (slice_index_or cells place d)

-- these bytes spell this page
pub record Spells {slots : ℕ} (page : ℕ) (cells : List (Cell slots)) (bytes : List ℕ) : Type 0 where
  pub rules : IsPage page cells
  pub spelled : bytes ≡ page_bytes cells

-- ---- ranges

-- each number is in the range of its type, as in every cell of a program
pub record IsTyped {slots : ℕ} (c : Cell slots) : Type 0 where
  pub bits : c.bits < 2 ^ 16
  pub id : c.id < 2 ^ 32
  pub strong : c.strong < 2 ^ 32
  pub weak : c.weak < 2 ^ 32
  pub payload : c.payload < 2 ^ 64
  pub slot_count : length c.slots ≡ slots
  pub targets : (slot : ℕ) → slice_index c.slots slot < 2 ^ 32

-- the numbers of each cell are in the range of their types
abbrev pub AreTyped : {slots : ℕ} → List (Cell slots) → Type 0
AreTyped {slots} cells = (place : ℕ) (d : Cell slots) → place < length cells → IsTyped (slice_index_or cells place d)

-- ---- new and held cells

-- the cell of the id in a new store: the root is live and has one strong pointer of its own, and all others are free
abbrev pub fresh_cell : (slots id : ℕ) → Cell slots
fresh_cell slots id = if id == 1 then record (free_cell slots 1) { live = true; strong = 1 } else free_cell slots id

-- the page of this number in a new store
abbrev pub fresh_page : (slots page : ℕ) → List (Cell slots)
fresh_page slots page = map (λ place. fresh_cell slots (first_id page + place)) (0 ∷ 1 ∷ 2 ∷ 3 ∷ 4 ∷ 5 ∷ 6 ∷ 7 ∷ [])

-- where in its page the cell of the id stands
abbrev pub place_of : ℕ → ℕ
place_of id = (id - 1) % 8

-- the page has the cell of this id at its place
pub record HasId {slots : ℕ} (cells : List (Cell slots)) (id : ℕ) : Type 0 where
  pub above : 0 < id
  pub there : (d : Cell slots) → (slice_index_or cells (place_of id) d).id ≡ id
