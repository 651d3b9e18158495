use Rattle.std.proofs.Common.{◌∙◌, ap}
use Rattle.plain_model.specs.History.{end_of}
use Rattle.core_store.specs.JournalView.{JournalView}
use Rattle.core_store.specs.Journal.{view_of}
use Rattle.core_store.specs.Views.{view_of as tables_of}
use Rattle.core_store.proofs.StoredLaws.{taken-stored}
use Rattle.core_store.proofs.journal.Journal.stored.Goals as goal

pub returns : goal.returns
returns g c =
    c.from.ensures ∙ (c.in_ok-ids.ensures ∙ (taken-stored (view_of c.self.inside) (tables_of c.self.inside.tables) c.self.invariant.keeps ∙ ap (λ (j : JournalView). (end_of j.history).state.stored) c.self.view_is))
