-- A log that goes on after what its store opened with.
use Rattle.std.specs.Prelude.{◌≡◌, ℕ, ◌*◌, ◌<◌, List, [], ◌∷◌, ◌++◌, map, Option, Some, None, option_map, IfSome}
use Rattle.std.specs.List.{flat_map, AllByRecursion}
use Rattle.cell_model.specs.Cells.{Cell}
use Rattle.cell_model.specs.Records.{Record as StoredRecord, cells_after, AllFit}
use Rattle.cell_model.specs.Consistent.{AreConsistent}
use Rattle.cell_page.specs.Format.{IsSlotCount}
use Rattle.disk_model.specs.declared.area.Area.{Area}
use Rattle.disk_model.specs.Areas.{Bytes, in_area}
use Rattle.gate_log.specs.Batches.{IsLog, most_bytes}
use Rattle.gate_log.specs.OnDisk.{named_by}
use Rattle.log_record.specs.declared.cell_record.CellRecord.{CellRecord}
use Rattle.log_record.specs.declared.record.Record.{Record}
use Rattle.log_record.specs.declared.record.Record.TheVariants.{OfCells}
use Rattle.log_record.specs.Records.{record_of}
use Rattle.log_replay.specs.Replays.{IsWithin}
use Rattle.restart_laws.specs.Unended.{unended_after_all, AllFitUnended}
use Rattle.restart_laws.specs.Restored.{opened, CanRestart}
use Rattle.opened_images.specs.LogRecords.{body_of, bodies_of, all_of, unended_behind, first_records, AreBatches, HaveSpellings}
use Rattle.opened_images.specs.Replayed.{cells_of_log, IsDamagedPage, AllFitCells}
use Rattle.opened_images.specs.Opened.{Opened, OpensTo}

-- With these bytes in the pages area, these batches after a log's first one make these cells of a store of so many pages,
-- and tell of no transaction that hasn't ended.
pub record IsEndedLog {slots : ℕ} (pages : ℕ) (area : List ℕ) (batches : List (List (Record slots))) (cells : List Cell) : Type 0 where
  pub read : AreBatches pages batches
  pub whole : (page at : ℕ) → page < pages → IsDamagedPage area (all_of batches) page at → ⊥
  pub fit : AllFitCells pages area [] (all_of batches) []
  pub are : cells ≡ cells_of_log slots pages area (all_of batches)
  pub ended : unended_behind batches ≡ []

-- These batches are the first one of such a store's log and those of a log that has ended.
abbrev pub IsBegun : (slots pages : ℕ) → List ℕ → List (List ℕ) → List Cell → Type 0
IsBegun slots pages area batches cells = (earlier : List (List (Record slots))) × (batches ≡ body_of (first_records slots pages) ∷ bodies_of earlier) × IsEndedLog pages area earlier cells

-- the records that events logged; an event that changes no cell logs none
abbrev pub logged_records : {slots : ℕ} → List (Option CellRecord) → List (Record slots)
logged_records [] = []
logged_records (Some r ∷ rs) = OfCells r ∷ logged_records rs
logged_records (None ∷ rs) = logged_records rs

-- the same as records of cells
abbrev pub stored_records : List (Option CellRecord) → List (Option StoredRecord)
stored_records rs = map (option_map record_of) rs

-- what the events of these parts logged, one part after another
abbrev pub in_parts : List (List (Option CellRecord)) → List (Option CellRecord)
in_parts parts = flat_map (λ (part : List (Option CellRecord)). part) parts

-- the ids and targets of the records are at most this
abbrev pub AreWithin : ℕ → List (Option CellRecord) → Type 0
AreWithin ids rs = AllByRecursion (λ r. IfSome r (IsWithin ids)) rs

-- Where a log that has ended goes on with the records of events, one batch for each part of them, and these fit its cells
-- and can be undone where they have not ended, the image opens to what the cells are after them and after that undo.
abbrev pub GoesOnLaw : Type 0
GoesOnLaw =
    (slots pages : ℕ) (image : Bytes) (area : Area) (earlier : List (List (Record slots))) (parts : List (List (Option CellRecord))) (cells : List Cell)
    → IsSlotCount slots → IsEndedLog pages image.pages earlier cells → AreConsistent slots (8 * pages) cells
    → named_by image.super_area ≡ Some area
    → IsLog most_bytes (body_of (first_records slots pages) ∷ (bodies_of earlier ++ map (λ part. body_of (logged_records {slots = slots} part)) parts)) (in_area image area)
    → HaveSpellings (logged_records {slots = slots} (in_parts parts)) → AreWithin (8 * pages) (in_parts parts)
    → AllFit slots cells (stored_records (in_parts parts)) → AllFitUnended [] (stored_records (in_parts parts))
    → AreConsistent slots (8 * pages) (cells_after slots cells (stored_records (in_parts parts)))
    → CanRestart slots (cells_after slots cells (stored_records (in_parts parts))) (unended_after_all [] (stored_records (in_parts parts)))
    → Opened slots image (OpensTo (opened slots cells (stored_records (in_parts parts))))
