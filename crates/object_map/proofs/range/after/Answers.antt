use Rattle.std.proofs.Common.{◌≤◌, ◌<◌, ◌+◌, sym, arith}
use Rattle.plain_map.proofs.BetweenLaws.{between_nothing}
use Rattle.object_map.proofs.range.after.Goals as goal

pub returns-then-key-high : goal.returns-then-key-high
returns-then-key-high c = λ pairs.
    let h : c.args.high ≤ c.args.key = c.if-key-high.true in
    let l : c.args.high < c.args.key + 1 = omega (arith, h) in
    sym (between_nothing (c.args.key + 1) c.args.high pairs l)
