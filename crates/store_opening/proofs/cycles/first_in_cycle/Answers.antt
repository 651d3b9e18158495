use Rattle.std.proofs.Common.{arith}
use Rattle.restart_laws.specs.Rules.{in_cycle}
use Rattle.store_opening.proofs.RuleLaws.{all-kept}
use Rattle.store_opening.proofs.cycles.first_in_cycle.Goals as goal

pub returns-then-branch-clause-some : goal.returns-then-branch-clause-some
returns-then-branch-clause-some g c = record { breaks = in_cycle c.loop-id.id (c.in_ok-leads_back.ensures.found c.if-branch.true); least = c.loop-id.invariant }

pub returns-clause-none : goal.returns-clause-none
returns-clause-none g c =
    let test = c.loop-id-test.false in
    let sized = c.last_id-end.ensures.sized in
    all-kept c.args.replay.now.cells 4 c.loop-id.id (omega arith) (omega (arith, test, sized)) c.loop-id.invariant
