use Rattle.std.proofs.Common.{◌∙◌, drop}
use Rattle.green_walk.specs.Greening.{AtInto}
use Rattle.green_walk.proofs.GreenFound.{found-is, seen-into}
use Rattle.green_walk.proofs.green.Green.found.Goals as goal

pub returns-in-Into-clause-found : goal.returns-in-Into-clause-found
returns-in-Into-clause-found g c =
    let h = c.settle.new.self in
    let at = seen-into _ _ _ _ _ _ _ _ _ _ _ _ c.self.invariant h c.in-Into.flipped c.in-Into.rest c.in-Into.named c.self.view_is c.in-Into.is in
    c.found_into.ensures.found c.args.what ∙ found-is c.args.self.now h (AtInto c.in-Into.flipped (drop c.in-Into.rest h.copied)) c.args.what c.settle.ensures.settled at
