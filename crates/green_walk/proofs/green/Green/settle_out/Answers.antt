use Rattle.std.proofs.Common.{◌≡◌, length, nat_lt, false, sym, ap, ◌∙◌, subst, arith}
use Rattle.std.proofs.lemmas.Bool.Decides.{nat_tests}
use Rattle.green_walk.specs.Greening.{settled_out}
use Rattle.green_walk.specs.GreenInside.{greening_of, AreInStep}
use Rattle.green_walk.proofs.GreenParts.{done-in-step, done-view}
use Rattle.green_walk.proofs.green.Green.settle_out.Goals as goal

pub invariant_of-self : goal.invariant_of-self
invariant_of-self g c =
    let i = c.self.inside in
    let past = c.if-place-ids.true in
    let all = ap length c.ids.ensures.ids in
    let end : nat_lt c.in-Out.place (length i.green.ids) ≡ false = grind (arith, nat_tests, past, all) in
    done-in-step g.row.SLOTS i.limit i.seeds i.done i.live i.green c.in-Out.place c.in-Out.slot i.test i.walked i.changed i.current i.copied
    (subst (λ at. AreInStep g.row.SLOTS i.limit i.seeds i.done i.live i.green at i.test i.walked i.changed i.current i.copied) c.in-Out.is c.self.invariant)
    end _ (ap length c.ids-then-place-ids.ensures.ids)

pub returns-then-place-ids-clause-settled : goal.returns-then-place-ids-clause-settled
returns-then-place-ids-clause-settled g c =
    let i = c.self.inside in
    let past = c.if-place-ids.true in
    let all = ap length c.ids.ensures.ids in
    let end : nat_lt c.in-Out.place (length i.green.ids) ≡ false = grind (arith, nat_tests, past, all) in
    done-view g.row.SLOTS i.limit i.seeds i.done i.live i.green c.in-Out.place c.in-Out.slot i.test i.walked i.changed i.current i.copied
    (subst (λ at. AreInStep g.row.SLOTS i.limit i.seeds i.done i.live i.green at i.test i.walked i.changed i.current i.copied) c.in-Out.is c.self.invariant)
    end _ (ap length c.ids-then-place-ids.ensures.ids)
    ∙ ap (λ at. settled_out (greening_of g.row.SLOTS i.limit i.seeds.ids i.done i.live.ids i.green.ids at i.test i.walked i.changed i.current i.copied.slots)) (sym c.in-Out.is)
    ∙ ap settled_out c.self.view_is

pub returns-then-place-ids-clause-sound : goal.returns-then-place-ids-clause-sound
returns-then-place-ids-clause-sound g c = (invariant_of-self g c).sound
