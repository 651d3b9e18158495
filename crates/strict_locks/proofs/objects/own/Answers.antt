use Rattle.std.proofs.Common.{sym, subst, arith}
use Rattle.std.proofs.lemmas.Bool.Decides.{nat_tests}
use Rattle.strict_locks.specs.Locks.{Holders, StandsInWayOfOwn, Nobody}
use Rattle.strict_locks.proofs.HoldersLaws.{holders_of-found, AreHeld-put}
use Rattle.strict_locks.proofs.PutLaws.{Puts-set, AddsOwner-set}
use Rattle.strict_locks.proofs.objects.own.Goals as goal

pub own-requires : goal.own-requires
own-requires c =
    let P : Holders → Type 0 = λ h. Nobody (StandsInWayOfOwn h c.args.pass) in
    subst P (holders_of-found c.args.locks.now c.args.id _ (sym c.in-Some.ensures.value)) c.requires.free

pub returns-in-Some-clause-adds : goal.returns-in-Some-clause-adds
returns-in-Some-clause-adds c = AddsOwner-set c.args.locks.now c.args.pass c.args.id c.in-Some.lock.now c.own.new.self (sym c.in-Some.ensures.value) c.own.ensures

pub returns-in-Some-clause-held : goal.returns-in-Some-clause-held
returns-in-Some-clause-held c =
    AreHeld-put c.args.locks.now _ c.args.id c.own.new.self c.args.pass (rw c.own.ensures (grind (arith, nat_tests))) (Puts-set c.args.locks.now c.args.id c.in-Some.lock.now c.own.new.self (sym c.in-Some.ensures.value))
