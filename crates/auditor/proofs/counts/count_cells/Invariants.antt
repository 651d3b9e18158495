use Rattle.std.proofs.Common.{◌≡◌, ℕ, ◌*◌, ◌<◌, ◌≤◌, length, map, take}
use Rattle.std.specs.Prelude.{slice_index}
use Rattle.cell_model.specs.Cells.{pointers_to}
use Rattle.cell_page.specs.Stored.{cell_of}
use Rattle.auditor.proofs.counts.count_cells.Given as goal

abbrev pub invariant-loop-cell : goal.invariant-loop-cell
invariant-loop-cell g l = record {
  len : length l.counts ≡ length l.cells;
  each : (id : ℕ) → id < length l.cells → slice_index l.counts id ≡ pointers_to (map cell_of (take l.cell-index l.cells)) id l.bit;
  few : (id : ℕ) → id < length l.cells → slice_index l.counts id ≤ 14 * l.cell-index;
}
