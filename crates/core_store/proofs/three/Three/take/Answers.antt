use Rattle.std.proofs.Common.{sym, arith, subst, List, [], ◌∷◌, ◌++◌, IfSome, ℕ, ◌<◌, ◌≡◌, ◌≢◌}
use Rattle.core_store.specs.declared.three.HeldFrame.{HeldFrame}
use Rattle.core_store.specs.Inside.{AreThreeInside, held_in}
use Rattle.core_store.proofs.ThreeLaws.{none-put, AreThreeInside-taken, taken-of-all}
use Rattle.core_store.proofs.three.Three.take.Goals as goal

pub invariant_of-self : goal.invariant_of-self
invariant_of-self g c =
    let fewer = c.take_of_all.ensures.fewer in
    let small = c.self.invariant.small in
    subst (λ n. AreThreeInside c.take_of_all.new.all c.self.inside.frames n) (sym c.if-self-eq0.true) (none-put c.take_of_all.new.all c.self.inside.frames c.self.invariant.three (omega (arith, fewer, small)))

pub returns-then-self-eq0-clause-last : goal.returns-then-self-eq0-clause-last
returns-then-self-eq0-clause-last g c =
    subst (λ (hs : List (HeldFrame g.row.SLOTS)). IfSome c.take_of_all.result (λ r. hs ≡ held_in c.take_of_all.new.all c.self.inside.frames c.self.inside.count ++ record { page = r.0; frame = r.1 } ∷ [])) c.self.view_is
    (taken-of-all c.self.inside.all c.take_of_all.new.all c.self.inside.frames c.self.inside.count c.take_of_all.result c.if-self-eq0.true c.take_of_all.ensures.last)

above-0 : (n : ℕ) → n ≢ 0 → 0 < n
above-0 n other = grind arith

pub invariant_of-self-2 : goal.invariant_of-self-2
invariant_of-self-2 g c = AreThreeInside-taken c.self.invariant c.index-self-self.result (above-0 c.self.inside.count c.if-self-eq0.false)
