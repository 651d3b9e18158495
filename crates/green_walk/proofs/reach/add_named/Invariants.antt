use Rattle.std.proofs.Common.{◌≡◌, take}
use Rattle.green_walk.specs.Judged.{Adds}
use Rattle.green_walk.proofs.reach.add_named.Given as goal

abbrev pub invariant-loop-target : goal.invariant-loop-target
invariant-loop-target g l = record {
  adds : Adds l.red.list (take l.target-index l.slots) l.initial.reached.ids l.reached.ids;
  limit : l.reached.limit ≡ l.initial.reached.limit;
}
