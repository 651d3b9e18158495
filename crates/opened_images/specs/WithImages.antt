-- A log that goes on with records of events and images of pages, while pages with an image are written in place.
use Rattle.std.specs.Prelude.{◌≡◌, ℕ, ◌+◌, ◌*◌, ◌<◌, Bool, false, List, [], ◌∷◌, ◌++◌, Option, Some, ⊤}
use Rattle.cell_model.specs.Cells.{Cell}
use Rattle.cell_model.specs.Records.{after_record, cells_after, AllFit}
use Rattle.cell_model.specs.Consistent.{AreConsistent}
use Rattle.cell_page.specs.Format.{IsSlotCount, AreTyped}
use Rattle.cell_page.specs.Stored.{HoldsPage}
use Rattle.disk_model.specs.declared.area.Area.{Area}
use Rattle.disk_model.specs.Areas.{Bytes, in_area}
use Rattle.gate_log.specs.Batches.{IsLog, most_bytes}
use Rattle.gate_log.specs.OnDisk.{named_by}
use Rattle.log_record.specs.declared.cell_record.CellRecord.{CellRecord}
use Rattle.log_record.specs.declared.record.Record.{Record}
use Rattle.log_record.specs.declared.record.Record.TheVariants.{OfCells, Image, Turn}
use Rattle.log_record.specs.Records.{record_of}
use Rattle.page_area.specs.Place.{bytes_of_page}
use Rattle.restart_laws.specs.Local.{has_image}
use Rattle.restart_laws.specs.Unended.{unended_after_all, AllFitUnended}
use Rattle.restart_laws.specs.Restored.{opened, CanRestart}
use Rattle.opened_images.specs.LogRecords.{body_of, bodies_of, all_of, first_records, HaveSpellings, AllFitLog}
use Rattle.opened_images.specs.Replayed.{items_of, cells_of_log, IsDamagedPage, AllFitCells}
use Rattle.opened_images.specs.Opened.{Opened, OpensTo}
use Rattle.opened_images.specs.GoesOn.{IsEndedLog, logged_records, stored_records, AreWithin}

-- ---- records and images

-- the records without the images among them
abbrev pub without_images : {slots : ℕ} → List (Record slots) → List (Record slots)
without_images [] = []
without_images (Image page held ∷ rs) = without_images rs
without_images (r ∷ rs) = r ∷ without_images rs

-- the records are what these events logged, in order, and images of pages among them
abbrev pub AreOfEvents : {slots : ℕ} → List (Option CellRecord) → List (Record slots) → Type 0
AreOfEvents events rs = without_images rs ≡ logged_records events

-- each image among the records is of a page of the store, and has that page of the cells as they are there
abbrev pub HaveImages : {slots : ℕ} → ℕ → List Cell → List (Record slots) → Type 0
HaveImages pages cells [] = ⊤
HaveImages {slots} pages cells (OfCells r ∷ rs) = HaveImages pages (after_record slots cells (record_of r)) rs
HaveImages pages cells (Image page held ∷ rs) = (page < pages) × AreTyped held × HoldsPage cells page held × HaveImages pages cells rs
HaveImages pages cells (Turn version count ∷ rs) = HaveImages pages cells rs

-- ---- pages in place

-- one of the records is an image of this page
abbrev pub is_imaged : {slots : ℕ} → ℕ → List (Record slots) → Bool
is_imaged page rs = has_image (8 * page + 1) (items_of rs)

-- in the pages area each page without an image among the records has the bytes that it had before
abbrev pub AreSamePages : {slots : ℕ} → ℕ → List (Record slots) → (before now : List ℕ) → Type 0
AreSamePages {slots} pages rs before now = (page : ℕ) → page < pages → is_imaged page rs ≡ false → bytes_of_page slots page now ≡ bytes_of_page slots page before

-- ---- the laws

-- With these bytes in the pages area, these records after a log's first batch make these cells of a store of so many pages.
pub record MakesCells {slots : ℕ} (pages : ℕ) (area : List ℕ) (rs : List (Record slots)) (cells : List Cell) : Type 0 where
  pub spelled : HaveSpellings rs
  pub fit_log : AllFitLog pages [] rs
  pub whole : (page at : ℕ) → page < pages → IsDamagedPage area rs page at → ⊥
  pub fit : AllFitCells pages area [] rs []
  pub are : cells ≡ cells_of_log slots pages area rs

-- Where a log that has ended goes on with what events logged and with images of pages, these fit its cells, each image is that
-- page of the cells as they are there, and in the pages area each page without an image in the log is as when the log ended, the
-- log makes the cells that the events make.
abbrev pub MakesCellsLaw : Type 0
MakesCellsLaw =
    (slots pages : ℕ) (before area : List ℕ) (earlier : List (List (Record slots))) (later : List (Record slots)) (events : List (Option CellRecord)) (cells : List Cell)
    → IsSlotCount slots → IsEndedLog pages before earlier cells → AreConsistent slots (8 * pages) cells
    → AreSamePages pages (all_of earlier ++ later) before area
    → AreOfEvents events later → HaveImages pages cells later
    → HaveSpellings (logged_records {slots = slots} events) → AreWithin (8 * pages) events
    → AllFit slots cells (stored_records events) → AllFitUnended [] (stored_records events)
    → AreConsistent slots (8 * pages) (cells_after slots cells (stored_records events))
    → MakesCells pages area (all_of earlier ++ later) (cells_after slots cells (stored_records events))

-- And where they stand in one batch for each part of them, and what has not ended can be undone, the image of the disk opens to
-- these cells after that undo.
abbrev pub GoesOnWithImagesLaw : Type 0
GoesOnWithImagesLaw =
    (slots pages : ℕ) (image : Bytes) (area : Area) (before : List ℕ) (earlier later : List (List (Record slots))) (events : List (Option CellRecord)) (cells : List Cell)
    → IsSlotCount slots → IsEndedLog pages before earlier cells → AreConsistent slots (8 * pages) cells
    → named_by image.super_area ≡ Some area
    → IsLog most_bytes (body_of (first_records slots pages) ∷ bodies_of (earlier ++ later)) (in_area image area)
    → AreSamePages pages (all_of (earlier ++ later)) before image.pages
    → AreOfEvents events (all_of later) → HaveImages pages cells (all_of later)
    → HaveSpellings (logged_records {slots = slots} events) → AreWithin (8 * pages) events
    → AllFit slots cells (stored_records events) → AllFitUnended [] (stored_records events)
    → AreConsistent slots (8 * pages) (cells_after slots cells (stored_records events))
    → CanRestart slots (cells_after slots cells (stored_records events)) (unended_after_all [] (stored_records events))
    → Opened slots image (OpensTo (opened slots cells (stored_records events)))
