-- Where a log that has ended goes on with the records of events alone, the image opens to the cells that these make.
use Rattle.std.proofs.Common.{ℕ, List, ◌∷◌, map, Option, refl, sym, ap, subst, ◌∙◌}
use Rattle.cell_model.specs.Cells.{Cell}
use Rattle.disk_model.specs.Areas.{in_area}
use Rattle.gate_log.specs.Batches.{IsLog, most_bytes}
use Rattle.log_record.specs.declared.cell_record.CellRecord.{CellRecord}
use Rattle.log_record.specs.declared.record.Record.{Record}
use Rattle.opened_images.specs.LogRecords.{body_of, all_of, first_records}
use Rattle.opened_images.specs.GoesOn.{logged_records, in_parts, GoesOnLaw}
use Rattle.opened_images.specs.WithImages.{without_images, AreOfEvents, HaveImages}
use Rattle.opened_images.proofs.GoesOnLog.{logged_parts, all_bodies}
use Rattle.opened_images.proofs.ImagesInLog.{logged_without, logged_images}
use Rattle.opened_images.proofs.WithImages.{goes_on_with_images}

-- the batches of all parts are of their events
of_parts : (slots : ℕ) (parts : List (List (Option CellRecord))) → AreOfEvents (in_parts parts) (all_of (map (logged_records {slots = slots}) parts))
of_parts slots parts = ap (λ (l : List (Record slots)). without_images l) (logged_parts parts) ∙ logged_without slots (in_parts parts)

-- and have no images
no_images : (slots pages : ℕ) (cells : List Cell) (parts : List (List (Option CellRecord))) → HaveImages pages cells (all_of (map (logged_records {slots = slots}) parts))
no_images slots pages cells parts = subst (λ (l : List (Record slots)). HaveImages pages cells l) (sym (logged_parts parts)) (logged_images slots pages cells (in_parts parts))

-- the log goes on, and the image opens
pub goes_on : GoesOnLaw
goes_on slots pages image area earlier parts cells known ended sound named log spelled within fit fit_unended after can =
    goes_on_with_images slots pages image area image.pages earlier (map logged_records parts) (in_parts parts) cells known ended sound named
    (subst (λ (l : List (List ℕ)). IsLog most_bytes (body_of (first_records slots pages) ∷ l) (in_area image area)) (sym (all_bodies earlier parts)) log)
    (λ page low none. refl) (of_parts slots parts) (no_images slots pages cells parts) spelled within fit fit_unended after can
