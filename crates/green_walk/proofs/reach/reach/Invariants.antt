use Rattle.std.proofs.Common.{◌≡◌, ◌≤◌, ◌-◌, length}
use Rattle.green_walk.proofs.ReachLaws.{IsReached}
use Rattle.green_walk.proofs.reach.reach.Given as goal

abbrev pub invariant-loop-next : goal.invariant-loop-next
invariant-loop-next g l = record {
  reached : IsReached l.red l.seeds l.reached.ids l.next;
  within : l.next ≤ length l.reached.ids;
  limit : l.reached.limit ≡ l.red.limit;
}

abbrev pub decreases-loop-next : goal.decreases-loop-next
decreases-loop-next g l = l.red.limit - l.next
