use Rattle.std.proofs.Common.{subst}
use Rattle.core_store.specs.JournalView.{JournalView}
use Rattle.plain_model.specs.History.{IsLegal}
use Rattle.plain_laws.specs.Serializable.{IsSerializable}
use Rattle.brahma_shell.proofs.MapLemmas.{of_map}
use Rattle.brahma_shell.proofs.mapping.ended_with.Goals as goal

pub returns-in-Open-clause-journal : goal.returns-in-Open-clause-journal
returns-in-Open-clause-journal g c =
    of_map g.D.Disk.may_leave g.D.Disk.faults c.in-Open.logged (rw c.in-Open.is at c.requires.limits)
    (subst (λ (j : JournalView). IsLegal j.history) c.journal.ensures.journal c.history.ensures.legal)
    (subst (λ (j : JournalView). IsSerializable j.history) c.journal.ensures.journal c.history.ensures.serializable) c.know.ensures
