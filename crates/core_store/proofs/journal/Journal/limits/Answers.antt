use Rattle.std.proofs.Common.{ap}
use Rattle.core_store.specs.JournalView.{JournalView}
use Rattle.core_store.proofs.journal.Journal.limits.Goals as goal

pub returns-clause-value : goal.returns-clause-value
returns-clause-value g c = ap (λ (j : JournalView). j.limits) c.self.view_is

pub returns-clause-within : goal.returns-clause-within
returns-clause-within g c = c.self.invariant.keeps.limits
