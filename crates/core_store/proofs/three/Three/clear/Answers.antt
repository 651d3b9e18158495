use Rattle.std.proofs.Common.{None, arith}
use Rattle.core_store.proofs.ThreeLaws.{none-put}
use Rattle.core_store.proofs.three.Three.clear.Goals as goal

pub invariant_of-self : goal.invariant_of-self
invariant_of-self g c = none-put None c.self.inside.frames c.self.invariant.three (omega arith)
