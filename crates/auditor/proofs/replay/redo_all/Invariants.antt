use Rattle.std.proofs.Common.{◌≡◌, length, map}
use Rattle.cell_page.specs.Stored.{cell_of}
use Rattle.auditor.specs.Replay.{IsReplayed}
use Rattle.auditor.proofs.replay.redo_all.Given as goal

abbrev pub invariant-loop-note : goal.invariant-loop-note
invariant-loop-note g l = record {
  len : length l.cells ≡ length l.fn.cells;
  replayed : IsReplayed g.row.SLOTS (map cell_of l.fn.cells) l.trace.list l.note-iterator (map cell_of l.cells);
}
