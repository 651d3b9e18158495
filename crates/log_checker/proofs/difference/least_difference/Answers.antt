use Rattle.log_checker.proofs.DifferenceLaws.{differs_as}
use Rattle.log_checker.proofs.difference.least_difference.Goals as goal

pub returns : goal.returns
returns c =
    differs_as c.args.one.now c.args.other.now _ _ _ _ _ _ c.items-3.ensures.same c.items-4.ensures.same c.items.ensures c.items-2.ensures
    c.in_ok-left.ensures.reachable c.in_ok-right.ensures.reachable c.least_apart.result c.least_apart.ensures
