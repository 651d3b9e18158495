-- Pages that are written in place after their images, and a log that begins anew.
use Rattle.std.specs.Prelude.{◌≡◌, ℕ, ◌+◌, ◌*◌, ◌<◌, ◌≤◌, true, List, [], ◌∷◌, ◌++◌, length, Option, Some}
use Rattle.cell_model.specs.Cells.{Cell}
use Rattle.cell_model.specs.Records.{Record as StoredRecord, cells_after, AllFit}
use Rattle.cell_model.specs.Consistent.{AreConsistent}
use Rattle.cell_page.specs.declared.cell.Cell.{Cell as PageCell}
use Rattle.cell_page.specs.Format.{IsSlotCount, AreTyped, Spells, page_size, page_bytes}
use Rattle.cell_page.specs.Stored.{HoldsPage}
use Rattle.disk_model.specs.declared.area.Area.{Area}
use Rattle.disk_model.specs.Areas.{Bytes, in_area}
use Rattle.gate_log.specs.Batches.{IsLog, most_bytes}
use Rattle.gate_log.specs.OnDisk.{named_by}
use Rattle.log_record.specs.declared.cell_record.CellRecord.{CellRecord}
use Rattle.log_record.specs.declared.record.Record.{Record}
use Rattle.page_area.specs.Place.{bytes_of_page}
use Rattle.page_area.specs.InPlace.{AreTorn, HasCopy}
use Rattle.restart_laws.specs.Unended.{unended_after_all, AllFitUnended}
use Rattle.restart_laws.specs.Restored.{opened, CanRestart}
use Rattle.opened_images.specs.LogRecords.{body_of, bodies_of, all_of, first_records, HaveSpellings}
use Rattle.opened_images.specs.Opened.{Opened, OpensTo, IsLogRead}
use Rattle.opened_images.specs.GoesOn.{IsEndedLog, IsBegun, logged_records, stored_records, AreWithin}
use Rattle.opened_images.specs.WithImages.{AreOfEvents, HaveImages, is_imaged, AreSamePages}
use Rattle.opened_images.specs.Marks.{last_image, StandsInPlace}

-- ---- a page is written in place

-- in place of pages with images any bytes may stand
abbrev pub AnyBytesLaw : Type 0
AnyBytesLaw =
    (slots pages «first» count : ℕ) (rs : List (Record slots)) (before was now : List ℕ) → AreSamePages pages rs before was → page_size slots * pages ≤ length was
    → ((page : ℕ) → «first» ≤ page → page < «first» + count → is_imaged page rs ≡ true) → AreTorn slots «first» count was now → AreSamePages pages rs before now

-- the last image of a page in the log is a copy of it
abbrev pub CopyLaw : Type 0
CopyLaw =
    (slots pages page : ℕ) (image : Bytes) (area : Area) (batches : List (List (Record slots))) (held : List (PageCell slots))
    → IsLogRead image area pages batches → last_image page (all_of batches) ≡ Some held → HasCopy slots page (page_bytes held) image

-- a page that is spelled in place stands there
abbrev pub SpelledLaw : Type 0
SpelledLaw =
    (slots page : ℕ) (area : List ℕ) (held : List (PageCell slots)) (cells : List Cell) → IsSlotCount slots → AreTyped held → HoldsPage cells page held
    → Spells page held (bytes_of_page slots page area) → StandsInPlace slots area cells page

-- ---- the log begins anew

-- where all pages stand in place, a log begins anew with its first batch alone
abbrev pub BeginsAnewLaw : Type 0
BeginsAnewLaw =
    (slots pages : ℕ) (area : List ℕ) (cells : List Cell) → 1 ≤ pages → pages ≤ 1024 → AreConsistent slots (8 * pages) cells
    → ((page : ℕ) → page < pages → StandsInPlace slots area cells page) → IsBegun slots pages area (body_of (first_records slots pages) ∷ []) cells

-- Later records fit what stands after the first ones, and do to it what they do after them; with the first ones and without
-- them they tell of the same transactions that haven't ended, and open to the same cells.
pub record GoOnFrom (slots : ℕ) (cells : List Cell) («first» later : List (Option StoredRecord)) : Type 0 where
  pub fit : AllFit slots cells («first» ++ later) → AllFit slots (cells_after slots cells «first») later
  pub fit_unended : AllFitUnended [] («first» ++ later) → AllFitUnended [] later
  pub cells_are : cells_after slots cells («first» ++ later) ≡ cells_after slots (cells_after slots cells «first») later
  pub unended : unended_after_all [] («first» ++ later) ≡ unended_after_all [] later
  pub opens : opened slots cells («first» ++ later) ≡ opened slots (cells_after slots cells «first») later

-- so it is where the first ones tell of no transaction that hasn't ended
abbrev pub GoOnFromLaw : Type 0
GoOnFromLaw = (slots : ℕ) (cells : List Cell) («first» later : List (Option StoredRecord)) → unended_after_all [] «first» ≡ [] → GoOnFrom slots cells «first» later

-- Where a log began anew after first records, which had ended, and goes on with what events logged and with images of pages, the
-- image opens to what the cells at the beginning are after the first records and the events, and after the undo of what has not
-- ended.
abbrev pub BehindCheckpointLaw : Type 0
BehindCheckpointLaw =
    (slots pages : ℕ) (image : Bytes) (area : Area) (before : List ℕ) (earlier later : List (List (Record slots)))
    (cells : List Cell) («first» : List (Option StoredRecord)) (events : List (Option CellRecord))
    → IsSlotCount slots → unended_after_all [] «first» ≡ []
    → IsEndedLog pages before earlier (cells_after slots cells «first») → AreConsistent slots (8 * pages) (cells_after slots cells «first»)
    → named_by image.super_area ≡ Some area
    → IsLog most_bytes (body_of (first_records slots pages) ∷ bodies_of (earlier ++ later)) (in_area image area)
    → AreSamePages pages (all_of (earlier ++ later)) before image.pages
    → AreOfEvents events (all_of later) → HaveImages pages (cells_after slots cells «first») (all_of later)
    → HaveSpellings (logged_records {slots = slots} events) → AreWithin (8 * pages) events
    → AllFit slots cells («first» ++ stored_records events) → AllFitUnended [] («first» ++ stored_records events)
    → AreConsistent slots (8 * pages) (cells_after slots cells («first» ++ stored_records events))
    → CanRestart slots (cells_after slots cells («first» ++ stored_records events)) (unended_after_all [] («first» ++ stored_records events))
    → Opened slots image (OpensTo (opened slots cells («first» ++ stored_records events)))
