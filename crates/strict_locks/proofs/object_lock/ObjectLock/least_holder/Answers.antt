use Rattle.strict_locks.specs.ClientSet.{members}
use Rattle.strict_locks.proofs.HoldersLaws.{least-owner}
use Rattle.strict_locks.proofs.object_lock.ObjectLock.least_holder.Goals as goal

pub returns-in-Some-clause-least : goal.returns-in-Some-clause-least
returns-in-Some-clause-least c = rw (← c.self.view_is) (least-owner (record { owner = c.self.inside.owner; sharers = members c.self.inside.sharers }) c.in-Some.owner c.self.invariant c.in-Some.is)
