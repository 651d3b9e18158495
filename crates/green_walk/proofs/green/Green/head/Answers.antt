use Rattle.std.proofs.Common.{sym, ap, ◌∙◌}
use Rattle.green_walk.specs.Greening.{Greening}
use Rattle.green_walk.proofs.GreenHeads.{head-waiting, head-named}
use Rattle.green_walk.proofs.green.Green.head.Goals as goal

pub returns-then-self : goal.returns-then-self
returns-then-self g c =
    let current = ap (λ (v : Greening). v.current) (sym c.self.view_is) ∙ c.if-self.true in
    head-named c.args.self.now c.args.flipped c.args.rest c.args.named c.first_waiting_to.result c.requires.within current (c.requires.way current) c.first_waiting_to.ensures

pub returns-else-self : goal.returns-else-self
returns-else-self g c =
    head-waiting c.args.self.now c.args.flipped c.args.rest c.first_waiting.result (ap (λ (v : Greening). v.current) (sym c.self.view_is) ∙ c.if-self.false) c.first_waiting.ensures
