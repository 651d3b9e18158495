-- What came whole of a stream: the number of its pages, the pages, and the batches of a log.
use Rattle.std.specs.Prelude.{◌≡◌, ℕ, ◌+◌, ◌*◌, ◌^◌, ◌<◌, ◌≤◌, Bool, true, false, if◌then◌else◌, ◌==◌, List, [], ◌∷◌, ◌++◌, length, slice_index_or, ⊤}
use Rattle.std.specs.Int.{w16, to_be_bytes}
use Rattle.std.specs.List.{flat_map}
use Rattle.cell_page.specs.declared.cell.Cell.{Cell}
use Rattle.cell_page.specs.Format.{IsPage, AreTyped, page_bytes, page_size}
use Rattle.gate_log.specs.Batches.{batches_bytes, most_bytes}
use Rattle.log_record.specs.declared.record.Record.{Record}
use Rattle.log_record.specs.declared.record.Record.TheVariants.{Turn}
use Rattle.log_record.specs.Spelling.{record_bytes}
use Rattle.opened_images.specs.LogRecords.{body_of, bodies_of, HaveSpellings}

-- what came whole of a stream: not even its number of pages, some first pages, or all pages and some first batches
pub data Reading (slots : ℕ) : Type 0 where
  -- not even the number of pages
  Nothing : Reading slots
  -- the number of pages, and these of them, which are fewer
  InBase : (count : ℕ) (pages : List (List (Cell slots))) → Reading slots
  -- all pages, and after them these batches
  InLog : (pages : List (List (Cell slots))) (batches : List (List (Record slots))) → Reading slots

-- ---- bytes

-- the number of pages, and so many bytes of pages
abbrev pub base_bytes : {slots : ℕ} → ℕ → List (List (Cell slots)) → List ℕ
base_bytes count pages = to_be_bytes w16 count ++ flat_map page_bytes pages

-- how many bytes the number and so many pages take
abbrev pub base_size : ℕ → ℕ → ℕ
base_size slots pages = 2 + pages * page_size slots

-- the batches, each after its open commit byte
abbrev pub shipped_bytes : {slots : ℕ} → List (List (Record slots)) → List ℕ
shipped_bytes batches = batches_bytes (bodies_of batches)

-- the bytes of what came whole
abbrev pub bytes_of : {slots : ℕ} → Reading slots → List ℕ
bytes_of Nothing = []
bytes_of (InBase count pages) = base_bytes count pages
bytes_of (InLog pages batches) = base_bytes (length pages) pages ++ shipped_bytes batches

-- ---- the pages

-- a stream has from 1 to 1,024 pages
abbrev pub IsPageCount : ℕ → Type 0
IsPageCount count = (1 ≤ count) × (count ≤ 1024)

-- each page obeys the rules for its number
abbrev pub ArePages : {slots : ℕ} → List (List (Cell slots)) → Type 0
ArePages pages = (p : ℕ) → p < length pages → IsPage p (slice_index_or pages p []) × AreTyped (slice_index_or pages p [])

-- ---- the batches

-- a body has at most 67,108,864 bytes
abbrev pub most_body : ℕ
most_body = 2 ^ 26

-- a body may have so many bytes: at least one
abbrev pub IsSize : ℕ → Type 0
IsSize size = (1 ≤ size) × (size ≤ most_body)

-- the next batch is the first one
abbrev pub is_first : {X : Type 0} → List X → Bool
is_first [] = true
is_first (batch ∷ batches) = false

-- The record may stand at this offset of a body. In the first batch that is the `Turn` with this number of pages, in front, and in
-- all others every record but a `Turn`.
abbrev pub MayStand : {slots : ℕ} → (first : Bool) (pages offset : ℕ) → Record slots → Type 0
MayStand true pages offset (Turn version count) = (offset ≡ 0) × (count ≡ pages)
MayStand true pages offset _ = ⊥
MayStand false pages offset (Turn version count) = ⊥
MayStand false pages offset _ = ⊤

-- so may all of these, one after another, the first of them at this offset
abbrev pub AllMayStand : {slots : ℕ} → (first : Bool) (pages offset : ℕ) → List (Record slots) → Type 0
AllMayStand first pages offset [] = ⊤
AllMayStand first pages offset (r ∷ rs) = MayStand first pages offset r × AllMayStand first pages (offset + length (record_bytes r)) rs

-- A batch of these records may follow those batches; the commit byte after it stands in the log area too.
pub record Follows {slots : ℕ} (pages : ℕ) (batches : List (List (Record slots))) (rs : List (Record slots)) : Type 0 where
  pub spelled : HaveSpellings rs
  pub stand : AllMayStand (is_first batches) pages 0 rs
  pub size : IsSize (length (body_of rs))
  pub within : length (shipped_bytes batches) + 5 + length (body_of rs) < most_bytes

-- so do all of these, one after another, where those came before
abbrev pub AllFollow : {slots : ℕ} → (pages : ℕ) (before batches : List (List (Record slots))) → Type 0
AllFollow pages before [] = ⊤
AllFollow pages before (rs ∷ batches) = Follows pages before rs × AllFollow pages (before ++ rs ∷ []) batches

-- ---- the whole

-- what came whole keeps to the format
abbrev pub IsReading : {slots : ℕ} → Reading slots → Type 0
IsReading Nothing = ⊤
IsReading (InBase count pages) = IsPageCount count × (length pages < count) × ArePages pages
IsReading (InLog pages batches) = IsPageCount (length pages) × ArePages pages × AllFollow (length pages) [] batches

-- these pages came of so many: with the last one, the log comes next
abbrev pub with_page : {slots : ℕ} → ℕ → List (List (Cell slots)) → Reading slots
with_page count pages = if length pages == count then InLog pages [] else InBase count pages

-- the number of pages and the pages are all there
abbrev pub HasAllPages : {slots : ℕ} → Reading slots → Type 0
HasAllPages (InLog pages batches) = ⊤
HasAllPages _ = ⊥
