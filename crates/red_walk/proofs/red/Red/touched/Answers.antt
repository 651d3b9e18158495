use Rattle.std.proofs.Common.{◌≡◌, ◌<◌, length, get_or, sym, subst}
use Rattle.red_walk.specs.Walk.{Walk}
use Rattle.red_walk.proofs.WalkLaws.{touched-there}
use Rattle.red_walk.proofs.red.Red.touched.Goals as goal

pub returns : goal.returns
returns g c =
    let within = subst (λ (w : Walk). c.args.place < length w.list) (sym c.self.view_is) c.requires in
    let mark = subst (λ ids. c.index.result.now ≡ get_or c.self.inside.touched.items (get_or ids c.args.place 0) c.index.result.now) c.ids.ensures.ids c.index.ensures in
    rw (← c.self.view_is) (touched-there _ _ _ _ _ _ _ _ _ c.self.invariant c.args.place c.index.result.now within mark)
