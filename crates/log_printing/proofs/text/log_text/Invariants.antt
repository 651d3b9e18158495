use Rattle.std.proofs.Common.{◌≡◌, ℕ, ◌-◌, ◌++◌, List, length}
use Rattle.log_record.specs.declared.record.Record.{Record}
use Rattle.opened_images.specs.LogRecords.{IsRecordLog}
use Rattle.log_printing.specs.Text.{text_of}
use Rattle.log_printing.specs.Lines.{GivesText}
use Rattle.log_printing.proofs.text.log_text.Given as goal

abbrev pub decreases-lines : goal.decreases-lines
decreases-lines g l = length l.area - l.lines.at

abbrev pub invariant-lines : goal.invariant-lines
invariant-lines g l =
    (pages : ℕ) × (batches : List (List (Record g.row.SLOTS))) × (rest : List ℕ)
    × (pages ≡ l.pages) × IsRecordLog pages batches l.area × (text_of pages batches ≡ l.bytes.items ++ rest) × GivesText g.row.SLOTS l.area rest l.lines
