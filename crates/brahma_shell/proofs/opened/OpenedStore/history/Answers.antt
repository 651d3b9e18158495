use Rattle.std.proofs.Common.{◌∙◌, subst}
use Rattle.disk_model.specs.Told.{EachImage}
use Rattle.logged_journal.specs.View.{LoggedView}
use Rattle.logged_journal.specs.Records.{MayBeLeft}
use Rattle.brahma_shell.proofs.opened.OpenedStore.history.Goals as goal

pub returns-clause-images : goal.returns-clause-images
returns-clause-images g c =
    subst (λ (x : LoggedView g.row.D.Denot). EachImage g.D.Disk.may_leave x.disk (MayBeLeft x)) (c.logged-logged.ensures.logged ∙ c.self.view_is) c.durable.ensures.images
