use Rattle.std.proofs.Common.{take}
use Rattle.plain_model.specs.Walk.{Adds, HasSame}
use Rattle.plain_model.proofs.reachable.add_all.Given as goal

abbrev pub invariant-loop-id : goal.invariant-loop-id
invariant-loop-id l = record {
  adds : Adds l.graph l.least (take l.id-index l.ids) l.initial.walk.order.items l.walk.order.items;
  same : HasSame l.walk.found l.walk.order.items;
}
