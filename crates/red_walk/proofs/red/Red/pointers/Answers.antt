use Rattle.std.proofs.Common.{◌<◌, ℕ, length, arith, sym, ap, subst}
use Rattle.store_model.specs.Core.{Copy}
use Rattle.red_walk.specs.Walk.{Walk}
use Rattle.red_walk.proofs.WalkLaws.{copies-length, copy-there}
use Rattle.red_walk.proofs.red.Red.pointers.Goals as goal

pub index-copy-requires : goal.index-copy-requires
index-copy-requires g c =
    let within = subst (λ (w : Walk). c.args.place < length w.copies) (sym c.self.view_is) c.requires in
    let n = copies-length _ _ _ _ _ _ _ _ _ c.self.invariant in
    grind (arith, within, n)

pub returns : goal.returns
returns g c =
    let within = subst (λ (w : Walk). c.args.place < length w.copies) (sym c.self.view_is) c.requires in
    rw (← c.self.view_is) (λ d.
    let e = copy-there _ _ _ _ _ _ _ _ _ c.self.invariant c.args.place c.index-copy.result.now within c.index-copy.ensures d in
    let strong = ap (λ (e : ℕ × Copy). e.1.strong) e in
    let weak = ap (λ (e : ℕ × Copy). e.1.weak) e in
    omega (arith, strong, weak, c.from.ensures, c.from-2.ensures))
