-- The slots of copied objects, with a way from each to the next one that names the same object.
use Rattle.std.specs.Prelude.{◌≡◌, ◌≢◌, ℕ, ◌+◌, ◌*◌, ◌<◌, ◌≤◌, List, [], ◌∷◌, ◌++◌, Contains, length, slice_index, slice_index_or}
use Rattle.std.specs.List.{flat_map}
use Rattle.cell_page.specs.Format.{IsSlotCount}
use Rattle.green_walk.specs.Greening.{numbered}
use Rattle.green_walk.specs.declared.copied_slots.CopiedSlot.{CopiedSlot}

-- the slots, and the greatest id
pub record SlotList : Type 0 where
  pub slots : List CopiedSlot
  pub limit : ℕ

-- each row has so many slots
abbrev pub AreRowsOf : ℕ → List (List ℕ) → Type 0
AreRowsOf slots rows = (row : List ℕ) → Contains rows row → length row ≡ slots

-- the slots of these objects, of which each has a row of what they held
abbrev pub slots_of : List ℕ → List (List ℕ) → List CopiedSlot
slots_of [] rows = []
slots_of (id ∷ ids) [] = []
slots_of (id ∷ ids) (row ∷ rows) = numbered id 0 row ++ slots_of ids rows

-- the slots of these rows, whichever objects have them
unfoldable pub bare : List (List ℕ) → List CopiedSlot
bare rows = flat_map (numbered 0 0) rows

-- what the slot at a place of the list names
abbrev pub target_at : List CopiedSlot → ℕ → ℕ
target_at slots place = (slice_index_or slots place (record { id = 0; slot = 0; target = 0 })).target

-- the place is the first one from there on whose slot names the object, or the end
pub record IsNextNaming (slots : List CopiedSlot) (id «from» place : ℕ) : Type 0 where
  pub behind : place < length slots → «from» ≤ place
  pub within : place ≤ length slots
  pub names : place < length slots → target_at slots place ≡ id
  pub none : (k : ℕ) → «from» ≤ k → k < place → target_at slots k ≢ id

-- each slot from there on that isn't null leads to the next one that names the same object, and each object to the first one of
-- them
pub record AreLinked (slots : List CopiedSlot) («from» limit : ℕ) (first next : List ℕ) : Type 0 where
  pub firsts : (k : ℕ) → «from» ≤ k → k < length slots → target_at slots k ≢ 0 → target_at slots k ≤ limit → IsNextNaming slots (target_at slots k) «from» (slice_index first (target_at slots k))
  pub nexts : (k : ℕ) → «from» ≤ k → k < length slots → target_at slots k ≢ 0 → target_at slots k ≤ limit → IsNextNaming slots (target_at slots k) (k + 1) (slice_index next k)

-- what is kept of them: a row for each object, and room for as many objects as there are ids, and for the links of their slots
pub record AreLinksInside (slots : ℕ) (ids : List ℕ) (rows : List (List ℕ)) (limit id_capacity row_capacity link_capacity : ℕ) (first next : List ℕ) : Type 0 where
  pub size : IsSlotCount slots
  pub each : length rows ≡ length ids
  pub long : AreRowsOf slots rows
  pub linked : AreLinked (bare rows) 0 limit first next
  pub firsts : length first ≡ limit + 1
  pub objects : length ids ≤ limit
  pub limited : limit < 65536
  pub few : slots * length rows ≤ length next
  pub id_room : limit ≤ id_capacity
  pub row_room : limit ≤ row_capacity
  pub link_room : slots * limit ≤ link_capacity
