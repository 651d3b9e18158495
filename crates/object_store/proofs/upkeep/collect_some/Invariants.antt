use Rattle.object_store.specs.Upkeep.{MakesEvents}
use Rattle.object_store.proofs.upkeep.collect_some.Given as goal

abbrev pub invariant-steps : goal.invariant-steps
invariant-steps g l = MakesEvents l.made l.fn.below l.below
