use Rattle.strict_locks.proofs.MadeLists.{HaveMade}
use Rattle.strict_locks.proofs.clients.make.Given as goal

abbrev pub invariant-loop : goal.invariant-loop
invariant-loop l = HaveMade l.initial.lists.items l.lists.items l.counter
