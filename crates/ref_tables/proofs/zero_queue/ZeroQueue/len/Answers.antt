use Rattle.std.proofs.Common.{◌≤◌, arith, subst}
use Rattle.ref_tables.specs.Queue.{Queue}
use Rattle.ref_tables.proofs.QueueLaws.{IsQueueInside-length}
use Rattle.ref_tables.proofs.zero_queue.ZeroQueue.len.Goals as goal

pub returns-clause-few : goal.returns-clause-few
returns-clause-few c = subst (λ (q : Queue). c.self.inside.count ≤ q.limit) c.self.view_is (let le = IsQueueInside-length _ _ _ _ _ c.self.invariant in omega (arith, le, c.self.invariant.number))
