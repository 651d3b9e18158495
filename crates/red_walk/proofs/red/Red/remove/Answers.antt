use Rattle.std.proofs.Common.{◌≡◌, ◌≤◌, true, false, sym, ◌∙◌, subst}
use Rattle.ref_tables.specs.Queue.{has}
use Rattle.red_walk.specs.Walk.{Walk}
use Rattle.red_walk.proofs.WalkLaws.{walk-holds, remove-step, remove-walk, remove-absent}
use Rattle.red_walk.proofs.red.Red.remove.Goals as goal

pub invariant_of-self : goal.invariant_of-self
invariant_of-self g c =
    let here = subst (λ (w : Walk). has w.left c.args.id ≡ true) (sym c.self.view_is) (sym c.holds.ensures.holds ∙ c.if-holds.true) in
    let below = subst (λ (w : Walk). c.args.id ≤ w.limit) (sym c.self.view_is) (c.holds.ensures.within c.if-holds.true).1 in
    remove-step _ _ _ _ _ _ _ _ _ c.self.invariant c.args.id here below

pub returns-then-holds-clause-removed : goal.returns-then-holds-clause-removed
returns-then-holds-clause-removed g c =
    let below = subst (λ (w : Walk). c.args.id ≤ w.limit) (sym c.self.view_is) (c.holds.ensures.within c.if-holds.true).1 in
    rw (← c.self.view_is) (remove-walk _ _ _ _ _ _ _ _ _ c.self.invariant c.args.id below)

pub returns-else-holds-clause-removed : goal.returns-else-holds-clause-removed
returns-else-holds-clause-removed g c =
    let gone = subst (λ (w : Walk). has w.left c.args.id ≡ false) (sym c.self.view_is) (sym c.holds.ensures.holds ∙ c.if-holds.false) in
    rw (← c.self.view_is) (remove-absent _ _ _ _ _ _ _ _ _ c.self.invariant c.args.id gone)

pub returns-then-holds-clause-sound : goal.returns-then-holds-clause-sound
returns-then-holds-clause-sound g c = walk-holds _ _ _ _ _ _ _ _ _ (invariant_of-self g c)

pub returns-else-holds-clause-sound : goal.returns-else-holds-clause-sound
returns-else-holds-clause-sound g c = rw (← c.self.view_is) (walk-holds _ _ _ _ _ _ _ _ _ c.self.invariant)
