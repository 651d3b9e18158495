use Rattle.core_store.proofs.TransactionRowLaws.{ordered}
use Rattle.core_store.proofs.transactions.Transactions.least.Goals as goal

pub returns-clause-ordered : goal.returns-clause-ordered
returns-clause-ordered c = rw (← c.self.view_is) (ordered c.self.inside.rows.items)

pub returns-then-self-eq0-clause-ordered : goal.returns-then-self-eq0-clause-ordered
returns-then-self-eq0-clause-ordered c = rw (← c.self.view_is) (ordered c.self.inside.rows.items)
