use Rattle.std.proofs.Common.{subst}
use Rattle.logged_journal.specs.View.{LoggedView}
use Rattle.framed_journal.specs.Holding.{AreFramesOf}
use Rattle.framed_journal.proofs.framed.FramedJournal.frames.Goals as goal

pub returns : goal.returns
returns g c = subst (λ (v : LoggedView g.row.D.Denot). AreFramesOf v.journal c.all_frames.result.now) c.self.view_is (c.all_frames.ensures c.self.inside.logged.journal c.self.invariant)
