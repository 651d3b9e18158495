use Rattle.std.proofs.Common.{sym, subst}
use Rattle.green_walk.specs.Greening.{Greening, IsGreening}
use Rattle.core_store.specs.RoundView.{Rounds, IsGreenAnswer}
use Rattle.core_store.specs.RoundInside.{AreInStep}
use Rattle.core_store.proofs.RoundLaws.{found-in-step, open-in-step}
use Rattle.core_store.proofs.round.Round.found.Goals as goal

pub invariant_of-self : goal.invariant_of-self
invariant_of-self g c =
    let a = c.self.inside in
    subst (λ (x : Greening). AreInStep g.row.SLOTS a.ids a.stage a.red a.locked a.verdict a.sweep a.slot x) (sym c.found.ensures.found)
    (found-in-step g.row.SLOTS a.ids a.stage a.red a.locked a.verdict a.sweep a.slot a.green c.args.what c.self.invariant (subst IsGreening c.found.ensures.found c.found.ensures.sound) (subst (λ (r : Rounds). IsGreenAnswer r.view c.args.what) (sym c.self.view_is) c.requires.answer))

pub returns-clause-sound : goal.returns-clause-sound
returns-clause-sound g c =
    let a = c.self.inside in
    open-in-step g.row.SLOTS a.ids a.stage a.red a.locked a.verdict a.sweep a.slot c.found.new.self (invariant_of-self g c)
