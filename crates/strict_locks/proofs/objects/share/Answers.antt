use Rattle.std.proofs.Common.{sym, subst, arith}
use Rattle.std.proofs.lemmas.Bool.Decides.{nat_tests}
use Rattle.strict_locks.specs.Locks.{Holders, StandsInWayOfShare, Nobody}
use Rattle.strict_locks.proofs.HoldersLaws.{holders_of-found, AreHeld-put}
use Rattle.strict_locks.proofs.PutLaws.{Puts-set, AddsShare-set, AddsShare-first}
use Rattle.strict_locks.proofs.objects.share.Goals as goal

pub share-requires : goal.share-requires
share-requires c =
    let P : Holders → Type 0 = λ h. Nobody (StandsInWayOfShare h c.args.pass) in
    subst P (holders_of-found c.args.locks.now c.args.id _ (sym c.in-Some.ensures.value)) c.requires

pub returns-in-Some-clause-adds : goal.returns-in-Some-clause-adds
returns-in-Some-clause-adds c =
    AddsShare-set c.args.locks.now c.args.pass c.args.id c.in-Some.lock.now c.share.new.self (sym c.in-Some.ensures.value) c.share.ensures.owner c.share.ensures.sharers

pub returns-in-Some-clause-held : goal.returns-in-Some-clause-held
returns-in-Some-clause-held c =
    AreHeld-put c.args.locks.now _ c.args.id c.share.new.self c.args.pass (let shares = c.share.ensures.sharers c.args.pass in grind (arith, nat_tests, shares)) (Puts-set c.args.locks.now c.args.id c.in-Some.lock.now c.share.new.self (sym c.in-Some.ensures.value))

pub returns-in_ok-push-in-None-clause-adds : goal.returns-in_ok-push-in-None-clause-adds
returns-in_ok-push-in-None-clause-adds c =
    AddsShare-first c.args.locks.now c.push.new.self c.args.pass c.args.id c.shared_by.result (sym c.in-None.ensures.value) c.in_ok-push-in-None.ensures.puts c.shared_by.ensures.owner c.shared_by.ensures.sharers

pub returns-in_ok-push-in-None-clause-held : goal.returns-in_ok-push-in-None-clause-held
returns-in_ok-push-in-None-clause-held c =
    AreHeld-put c.args.locks.now c.push.new.self c.args.id _ c.args.pass (let shares = c.shared_by.ensures.sharers c.args.pass in grind (arith, nat_tests, shares)) c.in_ok-push-in-None.ensures.puts
