use Rattle.std.proofs.Common.{arith}
use Rattle.green_walk.proofs.SweepLaws.{made-slots}
use Rattle.green_walk.proofs.sweep.Sweep.found.Goals as goal

pub returns-else-self-len-clause-found : goal.returns-else-self-len-clause-found
returns-else-self-len-clause-found c =
    rw (← c.self.view_is, c.in-Made.is) (made-slots _ _ _ _ _ c.self.invariant c.in-Made.id (grind (arith, c.if-self-len.false, c.len.ensures, c.self.invariant.emptied_few)))
