use Rattle.std.proofs.Common.{◌≡◌, ◌<◌, if◌then◌else◌, length, sym, subst}
use Rattle.green_walk.specs.Greening.{Greening}
use Rattle.green_walk.proofs.GreenParts.{walk-in-step}
use Rattle.green_walk.proofs.green.Green.walk.Goals as goal

pub invariant_of-self : goal.invariant_of-self
invariant_of-self g c =
    let i = c.self.inside in
    walk-in-step g.row.SLOTS i.limit i.seeds i.done i.live i.green i.stage i.test i.walked i.changed i.current i.copied c.self.invariant c.walk_start.result
    (subst (λ (v : Greening). c.walk_start.result ≡ (if v.changed then 0 else v.walked)) (sym c.self.view_is) c.walk_start.ensures)
    (subst (λ (v : Greening). 0 < length v.seeds) (sym c.self.view_is) c.requires.some)
