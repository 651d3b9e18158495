use Rattle.std.proofs.Common.{◌≡◌, take}
use Rattle.log_checker.proofs.folded_objects.slots_from.Given as goal

abbrev pub invariant-loop-target : goal.invariant-loop-target
invariant-loop-target l = l.slots ≡ take l.target-index l.targets
