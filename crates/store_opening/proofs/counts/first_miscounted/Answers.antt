use Rattle.std.proofs.Common.{arith, refl}
use Rattle.store_opening.proofs.RuleLaws.{all-kept, one-more, counts-kept}
use Rattle.store_opening.proofs.counts.first_miscounted.Goals as goal

pub loop-id-preserved : goal.loop-id-preserved
loop-id-preserved g c =
    let cells = c.args.replay.now.cells in
    one-more cells 3 c.loop-id.id c.loop-id.invariant (λ b. counts-kept cells 3 c.loop-id.id b refl (c.miscounts.ensures.kept c.if-miscounts.false))

pub returns-clause-none : goal.returns-clause-none
returns-clause-none g c =
    let test = c.loop-id-test.false in
    let sized = c.last_id-end.ensures.sized in
    all-kept c.args.replay.now.cells 3 c.loop-id.id (omega arith) (omega (arith, test, sized)) c.loop-id.invariant
