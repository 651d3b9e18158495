use Rattle.std.proofs.Common.{arith}
use Rattle.store_opening.proofs.RuleLaws.{all-kept}
use Rattle.store_opening.proofs.names.first_stray.Goals as goal

pub returns-clause-none : goal.returns-clause-none
returns-clause-none g c =
    let test = c.loop-id-test.false in
    let sized = c.last_id-end.ensures.sized in
    all-kept c.args.replay.now.cells 2 c.loop-id.id (omega arith) (omega (arith, test, sized)) c.loop-id.invariant.kept
