use Rattle.std.proofs.Common.{◌≡◌, ℕ, ◌+◌, ◌<◌, length, take}
use Rattle.std.specs.Prelude.{slice_index, count_by}
use Rattle.cell_model.specs.Cells.{aims}
use Rattle.cell_page.specs.Stored.{cell_of}
use Rattle.store_opening.proofs.counts.count_cell.Given as goal

abbrev pub invariant-loop-slot : goal.invariant-loop-slot
invariant-loop-slot g l = record {
  len : length l.counts ≡ length l.fn.counts;
  each : (id : ℕ) → id < length l.fn.counts → slice_index l.counts id ≡ slice_index l.fn.counts id + count_by (aims id l.bit) (take l.slot (cell_of l.cell).pointers);
}
