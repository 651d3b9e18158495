use Rattle.std.proofs.Common.{ap, ◌∙◌}
use Rattle.plain_model.specs.History.{end_of, least_active}
use Rattle.core_store.specs.Journal.{view_of}
use Rattle.core_store.specs.JournalView.{JournalView, core_of}
use Rattle.core_store.proofs.journal.Journal.least_active.Goals as goal

pub returns : goal.returns
returns g c = c.least_active.ensures (core_of (view_of c.self.inside)) c.self.invariant.keeps.stands ∙ ap (λ (j : JournalView). least_active (end_of j.history).state) c.self.view_is
