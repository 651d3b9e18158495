use Rattle.std.proofs.Common.{subst}
use Rattle.std.specs.Slice.Iter.{iter_rest}
use Rattle.std.specs.Iterator.Adapters.{rev_source}
use Rattle.strict_locks.proofs.GivingBack.{AreBeingDropped, given-back}
use Rattle.strict_locks.proofs.objects.give_back_all.Goals as goal

pub loop-id-preserved : goal.loop-id-preserved
loop-id-preserved c =
    let start = c.args.locks.now in
    let now = c.loop-id.locks in
    let left = subst (AreBeingDropped start now c.args.pass) c.in-Some.ensures.steps c.loop-id.invariant in
    given-back start now c.give_back.new.locks c.args.pass c.in-Some.id.now (iter_rest (rev_source c.next.new.self)) left c.give_back.ensures.gives c.give_back.ensures.held
