use Rattle.strict_locks.proofs.RowLaws.{HaveGrown}
use Rattle.strict_locks.proofs.rows.make.Given as goal

abbrev pub invariant-loop : goal.invariant-loop
invariant-loop l = HaveGrown l.initial.places.items l.places.items l.counter
