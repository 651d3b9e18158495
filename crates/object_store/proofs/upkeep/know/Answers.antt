use Rattle.std.proofs.Common.{ap, ◌∙◌, subst}
use Rattle.plain_model.specs.History.{end_of}
use Rattle.restart_laws.specs.Settled.{IsSettled}
use Rattle.core_store.specs.JournalView.{JournalView}
use Rattle.logged_journal.specs.View.{LoggedView}
use Rattle.object_store.proofs.upkeep.know.Goals as goal

pub returns : goal.returns
returns g c =
    record {
      settled = subst (λ (j : JournalView). IsSettled (end_of j.history)) (c.journal.ensures.journal ∙ ap (λ (x : LoggedView g.row.D.Denot). x.journal) c.logged.ensures.logged) c.history.ensures.safe.settled;
    }
