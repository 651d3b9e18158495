use Rattle.std.proofs.Common.{refl, arith}
use Rattle.log_checker.proofs.TallyLaws.{tells_first, tallying_first}
use Rattle.log_checker.proofs.tally.Tally.over.Goals as goal

pub invariant_of-result : goal.invariant_of-result
invariant_of-result g c =
    let last = c.last_id-last.ensures in
    tallying_first g.row.SLOTS c.args.replay.now.cells _ c.requires (omega (arith, last.sized)) (omega (arith, last.sized, last.few)) c.in_ok-of.ensures c.in_ok-new.ensures

pub returns : goal.returns
returns g c = tells_first c.args.replay.now.cells _ c.in_ok-of.ensures c.in_ok-new.ensures refl
