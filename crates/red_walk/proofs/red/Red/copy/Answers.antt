use Rattle.std.proofs.Common.{◌<◌, length, arith, sym, subst}
use Rattle.red_walk.specs.Walk.{Walk}
use Rattle.red_walk.proofs.WalkLaws.{copies-length, copy-there}
use Rattle.red_walk.proofs.red.Red.copy.Goals as goal

pub index-requires : goal.index-requires
index-requires g c =
    let within = subst (λ (w : Walk). c.args.place < length w.copies) (sym c.self.view_is) c.requires in
    let n = copies-length _ _ _ _ _ _ _ _ _ c.self.invariant in
    grind (arith, within, n)

pub returns : goal.returns
returns g c =
    let within = subst (λ (w : Walk). c.args.place < length w.copies) (sym c.self.view_is) c.requires in
    rw (← c.self.view_is) (copy-there _ _ _ _ _ _ _ _ _ c.self.invariant c.args.place c.index.result.now within c.index.ensures)
