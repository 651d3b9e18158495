use Rattle.std.proofs.Common.{◌<◌, ℕ, length, arith, sym, ap, subst}
use Rattle.store_model.specs.Core.{Copy}
use Rattle.red_walk.specs.Walk.{Walk}
use Rattle.red_walk.proofs.WalkLaws.{copies-length, copy-there}
use Rattle.red_walk.proofs.red.Red.targets.Goals as goal

pub index-requires : goal.index-requires
index-requires g c =
    let within = subst (λ (w : Walk). c.args.place < length w.copies) (sym c.self.view_is) c.requires in
    let n = copies-length _ _ _ _ _ _ _ _ _ c.self.invariant in
    grind (arith, within, n)

pub returns : goal.returns
returns g c =
    let within = subst (λ (w : Walk). c.args.place < length w.copies) (sym c.self.view_is) c.requires in
    rw (← c.self.view_is) (λ d. ap (λ (e : ℕ × Copy). e.1.targets) (sym (copy-there _ _ _ _ _ _ _ _ _ c.self.invariant c.args.place c.index.result.now within c.index.ensures d)))
