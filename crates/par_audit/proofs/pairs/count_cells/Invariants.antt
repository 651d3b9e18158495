use Rattle.std.proofs.Common.{◌≡◌, ℕ, ◌*◌, ◌<◌, ◌≤◌, Bool, length, map, take}
use Rattle.cell_model.specs.Cells.{pointers_to}
use Rattle.cell_page.specs.Stored.{cell_of}
use Rattle.par_audit.specs.Tables.{count_at, place_of}
use Rattle.par_audit.proofs.pairs.count_cells.Given as goal

abbrev pub invariant-loop-cell : goal.invariant-loop-cell
invariant-loop-cell g l = record {
  len : length l.bytes ≡ length l.fn.bytes;
  each : (id : ℕ) (bit : Bool) → place_of id bit < length l.fn.bytes → count_at l.bytes l.carries.items (place_of id bit) ≡ pointers_to (map cell_of (take l.cell-index l.piece)) id bit;
  few : (id : ℕ) (bit : Bool) → place_of id bit < length l.fn.bytes → count_at l.bytes l.carries.items (place_of id bit) ≤ 14 * l.cell-index;
}
