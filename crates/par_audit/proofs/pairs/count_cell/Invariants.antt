use Rattle.std.proofs.Common.{◌≡◌, ℕ, ◌+◌, ◌<◌, Bool, length, take}
use Rattle.std.specs.Prelude.{count_by}
use Rattle.cell_model.specs.Cells.{aims}
use Rattle.cell_page.specs.Stored.{cell_of}
use Rattle.par_audit.specs.Tables.{count_at, place_of}
use Rattle.par_audit.proofs.pairs.count_cell.Given as goal

abbrev pub invariant-loop-slot : goal.invariant-loop-slot
invariant-loop-slot g l = record {
  len : length l.bytes ≡ length l.fn.bytes;
  each : (id : ℕ) (bit : Bool) → place_of id bit < length l.fn.bytes → count_at l.bytes l.carries.items (place_of id bit) ≡ count_at l.fn.bytes l.fn.carries.items (place_of id bit) + count_by (aims id bit) (take l.slot (cell_of l.cell).pointers);
}
