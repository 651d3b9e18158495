-- Logs that have no room to go on.
use Rattle.std.specs.Prelude.{ℕ, zero, suc, ◌+◌, ◌*◌, ◌<◌, List, [], ◌∷◌, length}
use Rattle.cell_model.specs.Cells.{Cell}
use Rattle.disk_model.specs.declared.area.Area.{Area}
use Rattle.disk_model.specs.Areas.{Bytes}
use Rattle.gate_log.specs.Batches.{most_bytes}
use Rattle.log_record.specs.declared.record.Record.{Record}
use Rattle.opened_images.specs.LogRecords.{log_bytes, unended_behind}
use Rattle.opened_images.specs.Opened.{KeepsRules, AreCellsRead}
use Rattle.restart_laws.specs.Unended.{Unended}
use Rattle.restart_laws.specs.Restored.{CanRestart}

-- how many bytes the records of an undo have: 25 for each change, and 2 for the end of each transaction
abbrev pub undo_size : List (ℕ × Unended) → ℕ
undo_size [] = 0
undo_size (e ∷ es) = 2 + 25 * length e.1.changes + undo_size es

-- how many bytes a batch has whose body has so many; without a body there is none
abbrev pub batch_size : ℕ → ℕ
batch_size zero = 0
batch_size (suc more) = 5 + suc more

-- The image opens to cells, and its log has no room to go on: after it the batch of the undo, and two commit bytes and a length,
-- are more than a log area may have.
pub record LacksRoom (slots : ℕ) (image : Bytes) : Type 0 where
  pub area : Area
  pub pages : ℕ
  pub batches : List (List (Record slots))
  pub cells : List Cell
  pub read : AreCellsRead image area pages batches cells
  pub rules : KeepsRules cells
  pub can : CanRestart slots cells (unended_behind batches)
  pub long : most_bytes < length (log_bytes pages batches) + batch_size (undo_size (unended_behind batches)) + 6
