use Rattle.core_store.proofs.TransactionRowLaws.{ordered}
use Rattle.core_store.proofs.transactions.Transactions.len.Goals as goal

pub returns-clause-ordered : goal.returns-clause-ordered
returns-clause-ordered c = rw (← c.self.view_is) (ordered c.self.inside.rows.items)
