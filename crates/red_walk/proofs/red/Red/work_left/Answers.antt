use Rattle.std.proofs.Common.{arith}
use Rattle.red_walk.proofs.WalkLaws.{walk-holds, copies-length}
use Rattle.red_walk.proofs.red.Red.work_left.Goals as goal

pub returns-clause-exact : goal.returns-clause-exact
returns-clause-exact g c =
    let n = copies-length _ _ _ _ _ _ _ _ _ c.self.invariant in
    rw (← c.self.view_is, n, c.saturating_sub.ensures, c.limit-limit.ensures, c.len.ensures) (grind (arith))

pub returns-clause-sound : goal.returns-clause-sound
returns-clause-sound g c = rw (← c.self.view_is) (walk-holds _ _ _ _ _ _ _ _ _ c.self.invariant)
