use Rattle.ref_tables.proofs.MadeLists.{HaveMade}
use Rattle.ref_tables.proofs.lists.make.Given as goal

abbrev pub invariant-loop : goal.invariant-loop
invariant-loop l = HaveMade l.initial.lists.items l.lists.items l.counter
