use Rattle.std.proofs.Common.{◌≡◌, ◌<◌, length, drop, get_or, sym, ap, subst, arith}
use Rattle.green_walk.specs.Greening.{Greening, AtInto}
use Rattle.green_walk.specs.GreenInside.{stage_of}
use Rattle.green_walk.specs.declared.copied_slots.CopiedSlot.{CopiedSlot}
use Rattle.green_walk.proofs.GreenAsked.{next-head}
use Rattle.green_walk.proofs.green.Green.next.Goals as goal

pub returns-else-place-len-clause-next : goal.returns-else-place-len-clause-next
returns-else-place-len-clause-next g c =
    let at = subst (λ (v : Greening). v.stage ≡ AtInto c.in-Into.flipped (drop c.in-Into.rest v.copied)) c.self.view_is (ap (λ s. stage_of c.self.inside.copied.slots s) c.in-Into.is) in
    let all : length c.args.self.now.copied ≡ length c.self.inside.copied.slots = ap (λ (v : Greening). length v.copied) (sym c.self.view_is) in
    let early : c.head-place.result < length c.args.self.now.copied = (let within = c.head-place.ensures.within in let other = c.if-place-len.false in let size = c.len.ensures in omega (arith, all, within, other, size)) in
    next-head c.args.self.now c.in-Into.flipped c.in-Into.rest c.head-place.result c.at-head.result at c.head-place.ensures early
    (subst (λ (v : Greening). (d : CopiedSlot) → c.at-head.result ≡ get_or v.copied c.head-place.result d) c.self.view_is c.at-head.ensures)
