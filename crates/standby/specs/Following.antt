-- What a standby has of the stream that it is fed with.
use Rattle.std.specs.Prelude.{◌≡◌, ◌⊎◌, ℕ, ◌+◌, List, [], ◌∷◌, length, replicate, Option, Some, None, ⊤}
use Rattle.cell_page.specs.declared.cell.Cell.{Cell}
use Rattle.log_record.specs.declared.record.Record.{Record}
use Rattle.log_record.specs.Spelling.{record_bytes}
use Rattle.log_replay.specs.Inside.{cells_of_pages}
use Rattle.log_replay.specs.Replays.{Replaying, FitsReplay, after_taking}
use Rattle.opened_images.specs.LogRecords.{all_of}
use Rattle.ship_stream.specs.declared.refusal.FeedRefusal.{FeedRefusal}
use Rattle.ship_stream.specs.Reading.{Reading, Nothing, InBase, InLog}
use Rattle.ship_stream.specs.Feeding.{Feeding, HasTaken}

-- ---- the base after records

-- a replay over the pages of the base, before the first record: no image is awaited
abbrev pub over_base : {slots : ℕ} → List (List (Cell slots)) → Replaying
over_base pages = record { cells = cells_of_pages pages; unended = []; skips = replicate (length pages) 0 }

-- after all of these records
abbrev pub after_all : {slots : ℕ} → Replaying → List (Record slots) → Replaying
after_all v [] = v
after_all v (r ∷ rs) = after_all (after_taking r v) rs

-- each of them fits what those before it left
abbrev pub AllFit : {slots : ℕ} → Replaying → List (Record slots) → Type 0
AllFit v [] = ⊤
AllFit v (r ∷ rs) = FitsReplay v r × AllFit (after_taking r v) rs

-- Of these records, of which the first stands at this offset, those before one fit, and it doesn't. This is its offset.
abbrev pub StopsFitting : {slots : ℕ} → Replaying → List (Record slots) → (at place : ℕ) → Type 0
StopsFitting v [] at place = ⊥
StopsFitting v (r ∷ rs) at place = ((FitsReplay v r → ⊥) × (place ≡ at)) ⊎ (FitsReplay v r × StopsFitting (after_taking r v) rs (at + length (record_bytes r)) place)

-- the base after the records of these batches
abbrev pub base_after : {slots : ℕ} → List (List (Cell slots)) → List (List (Record slots)) → Replaying
base_after pages batches = after_all (over_base pages) (all_of batches)

-- the records of what came whole fit the base
abbrev pub FitsBase : {slots : ℕ} → Reading slots → Type 0
FitsBase (InLog pages batches) = AllFit (over_base pages) (all_of batches)
FitsBase _ = ⊤

-- ---- what a standby has

-- what is made of the parts of the stream that came whole
pub record Gathering (slots : ℕ) : Type 0 where
  -- how many pages the stream has
  pub count : ℕ
  -- those that came, until all are there
  pub pages : List (List (Cell slots))
  -- from then on, what the records of the whole batches made of them
  pub replaying : Option Replaying
  pub batches : ℕ

-- what contracts see of a standby
pub record Following (slots : ℕ) : Type 0 where
  -- the reader of the stream
  pub feed : Feeding
  pub gathered : Gathering slots
  -- how it was refused, and is from then on
  pub refused : Option FeedRefusal

-- This is made of what came whole: the cells are those of the base after the records of the whole batches, which fit.
abbrev pub Has : {slots : ℕ} → Reading slots → Gathering slots → Type 0
Has Nothing g = (g.pages ≡ []) × (g.replaying ≡ None) × (g.batches ≡ 0)
Has (InBase count pages) g = (g.count ≡ count) × (g.pages ≡ pages) × (g.replaying ≡ None) × (g.batches ≡ 0)
Has (InLog pages batches) g = AllFit (over_base pages) (all_of batches) × (g.replaying ≡ Some (base_after pages batches)) × (g.batches ≡ length batches)

-- The reader was fed with these bytes. This came whole of them, and that is made of it.
pub record IsReadInto {slots : ℕ} (r : Reading slots) (bytes : List ℕ) (feed : Feeding) (g : Gathering slots) : Type 0 where
  pub taken : HasTaken r bytes feed
  pub has : Has r g
