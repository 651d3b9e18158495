use Rattle.std.proofs.Common.{ap, ◌∙◌}
use Rattle.logged_journal.specs.View.{LoggedView}
use Rattle.shared_store.proofs.Active.{was-noted}
use Rattle.shared_store.proofs.noting.know_noted.Goals as goal

pub returns : goal.returns
returns g c =
    was-noted g.row.SLOTS c.args.journal.now c.journal.result.now (c.journal.ensures.journal ∙ ap (λ (v : LoggedView g.row.D.Denot). v.journal) c.logged.ensures.logged) c.history.ensures.sound c.history.ensures.led c.know_history.ensures.history
