use Rattle.std.proofs.Common.{arith}
use Rattle.std.proofs.lemmas.Bool.Decides.{nat_tests}
use Rattle.strict_locks.proofs.HoldersLaws.{AreHeld-put}
use Rattle.strict_locks.proofs.PutLaws.{AddsOwner-first, unheld-none}
use Rattle.strict_locks.proofs.objects.own_first.Goals as goal

pub push-requires : goal.push-requires
push-requires c = unheld-none c.args.locks.now c.args.id c.requires.held c.requires.free

pub returns-clause-adds : goal.returns-clause-adds
returns-clause-adds c =
    AddsOwner-first c.args.locks.now c.push.new.self c.args.pass c.args.id c.owned_by.result (unheld-none c.args.locks.now c.args.id c.requires.held c.requires.free) c.in_ok-push.ensures.puts c.owned_by.ensures

pub returns-clause-held : goal.returns-clause-held
returns-clause-held c =
    AreHeld-put c.args.locks.now c.push.new.self c.args.id _ c.args.pass (rw c.owned_by.ensures (grind (arith, nat_tests))) c.in_ok-push.ensures.puts
