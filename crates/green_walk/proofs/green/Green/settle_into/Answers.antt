use Rattle.std.proofs.Common.{◌≡◌, ◌<◌, length, drop, sym, ap, subst, arith}
use Rattle.green_walk.specs.Greening.{Greening, AtInto}
use Rattle.green_walk.specs.GreenInside.{stage_of}
use Rattle.green_walk.proofs.GreenParts.{into-stays}
use Rattle.green_walk.proofs.green.Green.settle_into.Goals as goal

pub returns-else-head-len-clause-settled : goal.returns-else-head-len-clause-settled
returns-else-head-len-clause-settled g c =
    let at = subst (λ (v : Greening). v.stage ≡ AtInto c.in-Into.flipped (drop c.in-Into.rest v.copied)) c.self.view_is (ap (λ s. stage_of c.self.inside.copied.slots s) c.in-Into.is) in
    let all : length c.args.self.now.copied ≡ length c.self.inside.copied.slots = ap (λ (v : Greening). length v.copied) (sym c.self.view_is) in
    let early : c.head.result < length c.args.self.now.copied = (let within = c.head.ensures.within in let other = c.if-head-len.false in let size = c.len.ensures in omega (arith, all, within, other, size)) in
    into-stays c.args.self.now c.in-Into.flipped c.in-Into.rest c.head.result at c.head.ensures early
