use Rattle.std.proofs.Common.{◌≡◌, ◌*◌, length}
use Rattle.cell_model.specs.Consistent.{AreConsistent}
use Rattle.store_opening.specs.Undone.{IsUndoing, to_undo}
use Rattle.store_opening.proofs.undo.undo_all.Given as goal

abbrev pub invariant-undo : goal.invariant-undo
invariant-undo g l = record {
  undoing : IsUndoing g.row.SLOTS l.initial.replay l.bytes.items l.replay l.initial.marks l.marks;
  skips : l.replay.skips ≡ l.initial.replay.skips;
  as_many : length l.marks ≡ length l.replay.skips;
  consistent : AreConsistent g.row.SLOTS (8 * length l.replay.skips) l.replay.cells;
}

abbrev pub decreases-undo : goal.decreases-undo
decreases-undo g l = to_undo l.replay.unended
