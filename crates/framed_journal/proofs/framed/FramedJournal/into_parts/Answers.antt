use Rattle.std.proofs.Common.{subst}
use Rattle.logged_journal.specs.View.{LoggedView}
use Rattle.framed_journal.specs.Holding.{AreFramesOf}
use Rattle.framed_journal.proofs.framed.FramedJournal.into_parts.Goals as goal

pub returns-clause-frames : goal.returns-clause-frames
returns-clause-frames g c = subst (λ (v : LoggedView g.row.D.Denot). AreFramesOf v.journal c.into_frames.result.items) c.self.view_is (c.into_frames.ensures c.self.inside.logged.journal c.self.invariant)
