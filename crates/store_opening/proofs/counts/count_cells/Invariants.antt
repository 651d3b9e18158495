use Rattle.std.proofs.Common.{◌≡◌, ℕ, ◌*◌, ◌<◌, ◌≤◌, length, take}
use Rattle.std.specs.Prelude.{slice_index}
use Rattle.cell_model.specs.Cells.{pointers_to}
use Rattle.store_opening.proofs.counts.count_cells.Given as goal

abbrev pub invariant-loop-id : goal.invariant-loop-id
invariant-loop-id g l = record {
  len : length l.counts ≡ length l.replay.cells;
  each : (x : ℕ) → x < length l.replay.cells → slice_index l.counts x ≡ pointers_to (take l.id l.replay.cells) x l.bit;
  few : (x : ℕ) → x < length l.replay.cells → slice_index l.counts x ≤ 14 * l.id;
}
