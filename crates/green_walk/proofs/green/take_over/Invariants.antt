use Rattle.std.proofs.Common.{◌≡◌, take}
use Rattle.green_walk.proofs.green.take_over.Given as goal

abbrev pub invariant-loop-id : goal.invariant-loop-id
invariant-loop-id l = record {
  ids : l.list.ids ≡ take l.id-index l.ids;
  limit : l.list.limit ≡ l.initial.list.limit;
}
