use Rattle.std.proofs.Common.{◌≡◌, length}
use Rattle.cell_page.specs.Stored.{cell_of}
use Rattle.strength_counts.proofs.Slots.{switched_below}
use Rattle.auditor.proofs.replay.switch_all.Given as goal

abbrev pub invariant-loop-slot : goal.invariant-loop-slot
invariant-loop-slot g l = record {
  model : cell_of l.cell ≡ switched_below l.id l.slot (cell_of l.initial.cell);
  count : length l.cell.slots ≡ length l.initial.cell.slots;
}
