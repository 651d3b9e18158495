-- The fields of a page in its bytes, and the first of them that breaks the rules.
use Rattle.std.specs.Prelude.{◌≡◌, ℕ, zero, suc, ◌+◌, ◌*◌, ◌/◌, ◌^◌, ◌<◌, ◌⊎◌, Bool, false, not, ◌&&◌, ◌||◌, if◌then◌else◌, ◌==◌, nat_lt, List, [], ◌∷◌, ◌++◌, length, take, drop, slice_index, Option, Some, None}
use Rattle.std.specs.Int.{Width, w16, w32, w64, byte_len, from_be_bytes, bit_at}
use Rattle.std.specs.List.{list_any}
use Rattle.cell_page.specs.declared.cell.Cell.{Cell}
use Rattle.cell_page.specs.Format.{fields_size, cell_size, page_size, first_id}

-- ---- the fields as they stand

-- the number whose bytes begin at the offset
unfoldable pub number_at : Width → List ℕ → ℕ → ℕ
number_at w bytes at = from_be_bytes w (take (byte_len w) (drop at bytes))

-- so many numbers of four bytes, one after another
abbrev pub numbers_in : ℕ → List ℕ → List ℕ
numbers_in zero bytes = []
numbers_in (suc count) bytes = number_at w32 bytes 0 ∷ numbers_in count (drop 4 bytes)

-- what stands in the fields of a cell, whether or not it obeys the rules
unfoldable pub cell_in : (slots : ℕ) → List ℕ → Cell slots
cell_in slots bytes =
    record {
      live = slice_index bytes 0 == 1;
      bit = slice_index bytes 1 == 1;
      bits = number_at w16 bytes 2;
      id = number_at w32 bytes 4;
      strong = number_at w32 bytes 8;
      weak = number_at w32 bytes 12;
      payload = number_at w64 bytes 16;
      slots = numbers_in slots (drop 24 bytes);
    }

-- the bytes of the cell at this place of a page
abbrev pub bytes_at : (slots : ℕ) → List ℕ → ℕ → List ℕ
bytes_at slots bytes place = take (cell_size slots) (drop (place * cell_size slots) bytes)

-- ---- the rules, field by field

-- a field: its offset, and whether it breaks the rules
pub record Field : Type 0 where
  pub at : ℕ
  pub breaks : Bool

-- the field of these parts
abbrev pub field : ℕ → Bool → Field
field at breaks = record { at = at; breaks = breaks }

-- a bit is set for a null slot; the first of the slots has bit i
abbrev pub sets_null_bit : ℕ → ℕ → List ℕ → Bool
sets_null_bit bits i [] = false
sets_null_bit bits i (target ∷ targets) = ((target == 0) && (bit_at bits i == 1)) || sets_null_bit bits (i + 1) targets

-- the pointer bits break the rules: in a live cell where a bit is set for a null slot or for one that isn't there
unfoldable pub bits_break : {slots : ℕ} → Cell slots → Bool
bits_break {slots} c = if c.live then not (c.bits / 2 ^ slots == 0) || sets_null_bit c.bits 0 c.slots else not (c.bits == 0)

-- in a free cell a number has to be 0
abbrev pub fills : Bool → ℕ → Bool
fills live n = not live && not (n == 0)

-- the fields of a cell's slots, of which the first stands at this offset; in a free cell each has to be 0
abbrev pub slot_fields : Bool → ℕ → List ℕ → List Field
slot_fields live at [] = []
slot_fields live at (target ∷ targets) = field at (fills live target) ∷ slot_fields live (at + 4) targets

-- the fields of a cell after its state and target bit
abbrev pub later_fields : {slots : ℕ} → ℕ → Cell slots → List Field
later_fields id c =
    field 2 (bits_break c)
    ∷ field 4 (not (c.id == id))
    ∷ field 8 (fills c.live c.strong)
    ∷ field 12 (fills c.live c.weak)
    ∷ field 16 (fills c.live c.payload)
    ∷ slot_fields c.live 24 c.slots

-- what follows the slots has to be 0
abbrev pub rest_field : ℕ → List ℕ → Field
rest_field slots bytes = field (fields_size slots) (list_any (λ byte. not (byte == 0)) (drop (fields_size slots) bytes))

-- the fields of the cell of this id
abbrev pub cell_fields : (slots id : ℕ) → List ℕ → List Field
cell_fields slots id bytes =
    field 0 (nat_lt 1 (slice_index bytes 0))
    ∷ field 1 (nat_lt (slice_index bytes 0) (slice_index bytes 1))
    ∷ later_fields id (cell_in slots bytes)
    ++ rest_field slots bytes ∷ []

-- ---- the first that breaks them

-- the offset of the first field that breaks the rules, where one does
abbrev pub first_broken : List Field → Option ℕ
first_broken [] = None
first_broken (f ∷ fs) = if f.breaks then Some f.at else first_broken fs

-- the offset of the first field of a cell's bytes that breaks the rules, where one does
unfoldable pub broken_in_cell : (slots id : ℕ) → List ℕ → Option ℕ
broken_in_cell slots id bytes = first_broken (cell_fields slots id bytes)

-- in the page of this number a field at this offset is the first to break the rules
pub record IsFirstBroken (slots page : ℕ) (bytes : List ℕ) (at : ℕ) : Type 0 where
  -- in the cell at this place
  pub place : ℕ
  pub within : place < 8
  pub earlier : (k : ℕ) → k < place → broken_in_cell slots (first_id page + k) (bytes_at slots bytes k) ≡ None
  pub offset : ℕ
  pub here : broken_in_cell slots (first_id page + place) (bytes_at slots bytes place) ≡ Some offset
  pub sum : at ≡ place * cell_size slots + offset

-- the bytes are no page: they are too few, and this is their number, or here a field is the first to break the rules
abbrev pub FailsAt : (slots page : ℕ) → List ℕ → ℕ → Type 0
FailsAt slots page bytes at =
    ((length bytes < page_size slots) × (at ≡ length bytes)) ⊎ ((length bytes ≡ page_size slots) × IsFirstBroken slots page bytes at)
