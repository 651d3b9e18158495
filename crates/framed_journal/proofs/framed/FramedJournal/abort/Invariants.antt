use Rattle.plain_model.specs.History.{end_of, left_to_undo}
use Rattle.framed_journal.proofs.StopLaws.{HasRun}
use Rattle.framed_journal.proofs.UndoLaws.{HasUndone}
use Rattle.framed_journal.proofs.framed.FramedJournal.abort.Given as goal

abbrev pub invariant-steps : goal.invariant-steps
invariant-steps g l = record {
  undone : HasUndone g.row.SLOTS l.client l.fn.self.journal l.self.journal;
  run : HasRun l.fn.self l.self;
}

abbrev pub decreases-steps : goal.decreases-steps
decreases-steps g l = left_to_undo (end_of l.self.journal.history) l.client
