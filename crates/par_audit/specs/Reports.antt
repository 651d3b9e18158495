-- What an audit reports.
use Rattle.std.specs.Prelude.{◌≡◌, ℕ, List, length}
use Rattle.cell_model.specs.Cells.{Cell as StoredCell}
use Rattle.core_store.specs.declared.frame.Frame.{Frame}
use Rattle.auditor.specs.declared.report.Report.{Report}
use Rattle.auditor.specs.Recount.{live_in, zero_in, differences_of, ids_of}

-- the report is that of these cells, beside what the frames keep
pub record IsReport {slots : ℕ} (cells : List StoredCell) (frames : List (Frame slots)) (r : Report) : Type 0 where
  pub live : r.live ≡ live_in cells
  pub zero : r.zero ≡ zero_in cells (ids_of (length frames))
  pub differences : r.differences ≡ differences_of cells frames
