use Rattle.std.proofs.Common.{◌-◌, ◌^◌}
use Rattle.plain_model.specs.Walk.{HasSame}
use Rattle.plain_model.proofs.ReachLaws.{IsReached}
use Rattle.plain_model.proofs.reachable.reach.Given as goal

abbrev pub invariant-loop-next : goal.invariant-loop-next
invariant-loop-next l = record {
  reached : IsReached l.graph l.«from» l.walk.order.items l.next;
  same : HasSame l.walk.found l.walk.order.items;
}

abbrev pub decreases-loop-next : goal.decreases-loop-next
decreases-loop-next l = 2 ^ 63 - l.next
