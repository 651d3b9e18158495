use Rattle.ref_tables.proofs.Forgetting.{AreBeingForgotten}
use Rattle.ref_tables.proofs.counts.Counts.forget_all.Given as goal

abbrev pub invariant-loop-entry : goal.invariant-loop-entry
invariant-loop-entry l = AreBeingForgotten l.initial.self l.self l.entries l.entry-index
