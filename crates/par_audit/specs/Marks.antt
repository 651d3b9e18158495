-- Marks of ids, and following pointers to objects that aren't reached yet.
use Rattle.std.specs.Prelude.{◌≡◌, ℕ, ◌<◌, ◌/◌, ◌%◌, Bool, true, false, ◌&&◌, ◌==◌, not, List, [], ◌++◌, length, Contains, ◌↔◌, slice_get, slice_index_or}
use Rattle.std.specs.Int.{bit_at}
use Rattle.std.specs.Option.{option_map_or}
use Rattle.std.specs.List.{list_any}
use Rattle.cell_model.specs.Cells.{Cell as StoredCell, is_live}
use Rattle.cell_page.specs.declared.cell.Cell.{Cell}

-- whether the word has the bit
abbrev pub has_bit : ℕ → ℕ → Bool
has_bit word bit = bit_at word bit == 1

-- whether the id is marked, in words with the marks of 64 ids each
unfoldable pub is_marked : List ℕ → ℕ → Bool
is_marked words id = has_bit (slice_index_or words (id / 64) 0) (id % 64)

-- whether the id has an object; 0 is no id
abbrev pub is_object : List StoredCell → ℕ → Bool
is_object cells id = not (id == 0) && is_live cells id

-- whether the id stands among these
abbrev pub is_in : List ℕ → ℕ → Bool
is_in ids id = list_any (λ x. x == id) ids

-- the slots of the id's cell
abbrev pub slots_at : {slots : ℕ} → List (Cell slots) → ℕ → List ℕ
slots_at cells id = option_map_or (λ c. c.slots) (slice_get cells id) []

-- whether an object of the level names the id
abbrev pub is_named : {slots : ℕ} → List (Cell slots) → List ℕ → ℕ → Bool
is_named cells level id = list_any (λ x. is_in (slots_at cells x) id) level

-- whether the table of ids has this one
abbrev pub has_id : List Bool → ℕ → Bool
has_id table id = slice_index_or table id false

-- the table has those of so many ids that the objects of the level name
pub record IsNameTable {slots : ℕ} (cells : List (Cell slots)) (level : List ℕ) (ids : ℕ) (table : List Bool) : Type 0 where
  pub len : length table ≡ ids
  pub each : (id : ℕ) → id < ids → has_id table id ≡ is_named cells level id

-- so many words mark what the objects of the level name
pub record AreNames {slots : ℕ} (cells : List (Cell slots)) (level : List ℕ) (count : ℕ) (words : List ℕ) : Type 0 where
  pub len : length words ≡ count
  pub each : (id : ℕ) → id / 64 < count → is_marked words id ≡ is_named cells level id

-- the id has an object that isn't among the unreached ones
abbrev pub is_reached : List StoredCell → List ℕ → ℕ → Bool
is_reached cells unreached id = is_object cells id && not (is_marked unreached id)

-- each id that the words mark has an object
abbrev pub AreObjects : List StoredCell → List ℕ → Type 0
AreObjects cells words = (id : ℕ) → is_marked words id ≡ true → is_object cells id ≡ true

-- from these unreached objects and this list of found ones to those after it: each unreached object with one of the names is
-- reached, and found, after what was found before
pub record Follows (has_name : ℕ → Bool) (before after : List ℕ) (listed listed_after : List ℕ) : Type 0 where
  pub len : length after ≡ length before
  pub kept : (id : ℕ) → is_marked after id ≡ (is_marked before id && not (has_name id))
  pub found : List ℕ
  pub appended : listed_after ≡ listed ++ found
  pub new : (id : ℕ) → Contains found id ↔ ((is_marked before id ≡ true) × (is_marked after id ≡ false))
