use Rattle.std.proofs.Common.{◌≡◌, take}
use Rattle.green_walk.proofs.reach.begin_with.Given as goal

abbrev pub invariant-loop-id : goal.invariant-loop-id
invariant-loop-id l = l.reached ≡ record l.initial.reached { ids = take l.id-index l.ids }
