use Rattle.std.proofs.Common.{subst}
use Rattle.disk_model.specs.Told.{EachImage}
use Rattle.logged_journal.specs.View.{LoggedView}
use Rattle.logged_journal.specs.Records.{MayBeLeft}
use Rattle.logged_journal.proofs.logged.LoggedJournal.durable.Goals as goal

pub returns-clause-images : goal.returns-clause-images
returns-clause-images g c = subst (λ (w : LoggedView g.row.D.Denot). EachImage g.D.Disk.may_leave w.disk (MayBeLeft w)) c.self.view_is c.self.invariant.kept.images

pub returns-clause-opens : goal.returns-clause-opens
returns-clause-opens g c = λ image may. c.know_images.ensures.left image (c.know_images.ensures.images image may)
