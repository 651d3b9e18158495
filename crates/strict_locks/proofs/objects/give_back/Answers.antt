use Rattle.std.proofs.Common.{sym, ◌∙◌, subst, arith}
use Rattle.strict_locks.specs.Locks.{Holders, StandsInWayOfOwn, IsLeastOrNone}
use Rattle.strict_locks.proofs.HoldersLaws.{holders_of-found, another-left, none-left, AreHeld-put, GivesBack-gone}
use Rattle.strict_locks.proofs.PutLaws.{Puts-set, GivesBack-set, AreHeld-gone}
use Rattle.strict_locks.proofs.objects.give_back.Goals as goal

pub returns-in-Some-get_mut-clause-gives : goal.returns-in-Some-get_mut-clause-gives
returns-in-Some-get_mut-clause-gives c =
    GivesBack-set c.args.locks.now c.args.pass c.args.id c.in-Some-get_mut.lock.now c.give_back.new.self (sym c.in-Some-get_mut.ensures.value) c.give_back.ensures.owner c.give_back.ensures.sharers

pub returns-in-Some-get_mut-clause-held : goal.returns-in-Some-get_mut-clause-held
returns-in-Some-get_mut-clause-held c =
    let table = c.args.locks.now in
    let P : Holders → Type 0 = λ h. IsLeastOrNone (StandsInWayOfOwn h c.args.pass) c.other_holder.result in
    let same = sym (holders_of-found table c.args.id _ (sym c.in-Some.ensures.value)) ∙ holders_of-found table c.args.id _ (sym c.in-Some-get_mut.ensures.value) in
    let left = another-left c.in-Some-get_mut.lock.now c.give_back.new.self c.args.pass c.other_holder.result (subst P same c.other_holder.ensures) (grind arith) c.give_back.ensures.owner c.give_back.ensures.sharers in
    AreHeld-put table _ c.args.id c.give_back.new.self left.0 left.1 (Puts-set table c.args.id c.in-Some-get_mut.lock.now c.give_back.new.self (sym c.in-Some-get_mut.ensures.value))

pub returns-then-is_none-clause-gives : goal.returns-then-is_none-clause-gives
returns-then-is_none-clause-gives c =
    let free = none-left c.in-Some.lock.now c.args.pass c.other_holder.result c.other_holder.ensures (grind arith) in
    GivesBack-gone c.args.locks.now c.remove.new.self c.args.pass c.args.id c.in-Some.lock.now (sym c.in-Some.ensures.value) free c.remove.ensures.gone c.remove.ensures.others

pub returns-then-is_none-clause-held : goal.returns-then-is_none-clause-held
returns-then-is_none-clause-held c = AreHeld-gone c.args.locks.now c.remove.new.self c.args.id c.remove.ensures.gone c.remove.ensures.others
