-- The replay of a log over the pages of a store, and where it stops.
use Rattle.std.specs.Prelude.{◌≡◌, ℕ, ◌+◌, ◌*◌, ◌<◌, ◌≤◌, List, [], ◌∷◌, length, slice_index, Option}
use Rattle.disk_model.specs.declared.area.Area.{Area}
use Rattle.disk_model.specs.Areas.{Bytes}
use Rattle.cell_model.specs.Cells.{cell_at}
use Rattle.cell_page.specs.declared.cell.Cell.{Cell}
use Rattle.log_record.specs.declared.record.Record.{Record}
use Rattle.gate_log.specs.State.{LogState}
use Rattle.log_record.specs.declared.record.Record.TheVariants.{Turn}
use Rattle.log_record.specs.Spelling.{known_version, HasSpelling}
use Rattle.log_replay.specs.Inside.{cells_of_pages}
use Rattle.log_replay.specs.Replays.{Replaying}
use Rattle.opened_images.specs.LogRecords.{body_of, all_of, unended_behind, first_records, IsDamagedLog}
use Rattle.opened_images.specs.Replayed.{cell_after, cells_of_log}
use Rattle.opened_images.specs.Opened.{ArePagesRead, AreCellsRead}
use Rattle.page_marks.specs.declared.marks.PageMark.{PageMark}
use Rattle.store_opening.specs.Walks.{count_images}
use Rattle.store_opening.specs.Loaded.{AreLoaded}
use Rattle.store_opening.specs.Walked.{EndsWalk, StopsWalk}

-- a replay over these pages before the first record, where the log has so many images of each
abbrev pub replay_start : {slots : ℕ} → List (List (Cell slots)) → List ℕ → Replaying
replay_start pages images = record { cells = cells_of_pages pages; unended = []; skips = images }

module _ {D : Type 0} (content : D → Area → Option (List ℕ)) (may_leave : D → Area → List ℕ → Type 0) where
  -- the log has a first batch, the replay took the records of all batches after it, and the marks are those of them
  pub record HasReplayed (slots : ℕ) (v w : Replaying) (marks : List PageMark) (log : LogState) (disk : D) : Type 0 where
    pub count : ℕ
    pub rules : HasSpelling {slots = slots} (Turn (known_version slots) count)
    pub ends : EndsWalk content may_leave slots (body_of (first_records slots count) ∷ []) v w marks log disk

-- the area stops here to be a log whose records the replay can take: in its first batch, or after it
pub data StopsReplay (slots : ℕ) (v : Replaying) (place : ℕ) (area : List ℕ) : Type 0 where
  in_first : IsDamagedLog slots area place → StopsReplay slots v place area
  behind : (count : ℕ) → HasSpelling {slots = slots} (Turn (known_version slots) count) → StopsWalk slots (body_of (first_records slots count) ∷ []) v place area
      → StopsReplay slots v place area

-- ---- a replay of the log of an image

-- The image is a store as far as the log in this area and its pages in place tell. These are its pages in place, and how
-- many images of each the log has.
pub record IsReady (slots : ℕ) (image : Bytes) (area : Area) (pages : List (List (Cell slots))) (images : List ℕ) : Type 0 where
  pub count : ℕ
  pub batches : List (List (Record slots))
  pub read : ArePagesRead image area count batches
  pub number : length images ≡ count
  pub counts : (page : ℕ) → page < count → slice_index images page ≡ count_images page (all_of batches)
  pub loaded : AreLoaded slots images count image.pages pages

-- Each record fits the cells, and the replay stands for the cells after all of them and for what has not ended then. No
-- image is awaited any more.
pub record IsReplayed (slots : ℕ) (image : Bytes) (area : Area) (count : ℕ) (batches : List (List (Record slots))) (w : Replaying) : Type 0 where
  pub read : AreCellsRead image area count batches (cells_of_log slots count image.pages (all_of batches))
  pub sized : length w.cells ≡ 8 * count + 1
  pub cells : (id : ℕ) → 1 ≤ id → id ≤ 8 * count → cell_at w.cells id ≡ cell_after slots image.pages (all_of batches) id
  pub unended : w.unended ≡ unended_behind batches
  pub long : length w.skips ≡ count
  pub none : (page : ℕ) → page < count → slice_index w.skips page ≡ 0
