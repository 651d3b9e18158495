use Rattle.std.proofs.Common.{sym, subst}
use Rattle.strict_locks.specs.Locks.{Holders, StandsInWayOfOwn, Nobody}
use Rattle.strict_locks.proofs.HoldersLaws.{exclusive-own}
use Rattle.strict_locks.proofs.object_lock.ObjectLock.own.Goals as goal

pub invariant_of-self : goal.invariant_of-self
invariant_of-self c =
    let P : Holders → Type 0 = λ h. Nobody (StandsInWayOfOwn h c.args.pass) in
    exclusive-own _ _ (subst P (sym c.self.view_is) c.requires)
