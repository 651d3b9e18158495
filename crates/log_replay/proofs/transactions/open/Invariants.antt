use Rattle.log_replay.proofs.RowLaws.{HaveMade}
use Rattle.log_replay.proofs.transactions.open.Given as goal

abbrev pub invariant-loop : goal.invariant-loop
invariant-loop l = HaveMade l.initial.rows.items l.rows.items l.counter
