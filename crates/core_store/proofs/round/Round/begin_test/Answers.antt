use Rattle.std.proofs.Common.{sym, subst}
use Rattle.green_walk.specs.Greening.{Greening, IsGreening}
use Rattle.core_store.specs.RoundView.{Rounds, IsGreenTestable}
use Rattle.core_store.specs.RoundInside.{AreInStep}
use Rattle.core_store.proofs.RoundLaws.{testing-in-step, open-in-step}
use Rattle.core_store.proofs.round.Round.begin_test.Goals as goal

pub invariant_of-self : goal.invariant_of-self
invariant_of-self g c =
    let a = c.self.inside in
    subst (λ (x : Greening). AreInStep g.row.SLOTS a.ids a.stage a.red a.locked a.verdict a.sweep a.slot x) (sym c.begin_test.ensures.testing)
    (testing-in-step g.row.SLOTS a.ids a.stage a.red a.locked a.verdict a.sweep a.slot a.green c.args.id c.self.invariant (subst IsGreening c.begin_test.ensures.testing c.begin_test.ensures.sound) (subst (λ (r : Rounds). IsGreenTestable r.view c.args.id) (sym c.self.view_is) c.requires.testable))

pub returns-clause-sound : goal.returns-clause-sound
returns-clause-sound g c =
    let a = c.self.inside in
    open-in-step g.row.SLOTS a.ids a.stage a.red a.locked a.verdict a.sweep a.slot c.begin_test.new.self (invariant_of-self g c)
