use Rattle.strict_locks.specs.ClientSet.{members}
use Rattle.strict_locks.proofs.HoldersLaws.{least-other_owner, nobody-beside_owner}
use Rattle.strict_locks.proofs.object_lock.ObjectLock.other_holder.Goals as goal

pub returns-in-Some : goal.returns-in-Some
returns-in-Some c = rw (← c.self.view_is) (least-other_owner (record { owner = c.self.inside.owner; sharers = members c.self.inside.sharers }) _ c.in-Some.owner c.self.invariant c.in-Some.is c.if-owner-pass.true)

pub returns-in-Some-2 : goal.returns-in-Some-2
returns-in-Some-2 c = rw (← c.self.view_is) (nobody-beside_owner (record { owner = c.self.inside.owner; sharers = members c.self.inside.sharers }) _ _ c.self.invariant c.in-Some.is c.if-owner-pass.false)
