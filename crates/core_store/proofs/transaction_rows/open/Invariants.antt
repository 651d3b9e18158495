use Rattle.core_store.proofs.TransactionRowLaws.{HaveMade}
use Rattle.core_store.proofs.transaction_rows.open.Given as goal

abbrev pub invariant-loop : goal.invariant-loop
invariant-loop l = HaveMade l.initial.rows.items l.rows.items l.counter
