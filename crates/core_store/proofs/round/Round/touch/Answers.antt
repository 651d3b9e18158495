use Rattle.std.proofs.Common.{sym, subst}
use Rattle.green_walk.specs.Greening.{Greening, IsGreening}
use Rattle.core_store.specs.RoundInside.{AreInStep}
use Rattle.core_store.proofs.RoundLaws.{again-in-step, open-in-step}
use Rattle.core_store.proofs.round.Round.touch.Goals as goal

pub invariant_of-self-in-Sweeping : goal.invariant_of-self-in-Sweeping
invariant_of-self-in-Sweeping g c =
    let a = c.self.inside in
    subst (λ (x : Greening). AreInStep g.row.SLOTS a.ids a.stage a.red a.locked a.verdict a.sweep a.slot x) (sym c.again.ensures.again)
    (again-in-step g.row.SLOTS a.ids a.stage a.red a.locked a.verdict a.sweep a.slot a.green c.self.invariant (subst IsGreening c.again.ensures.again c.again.ensures.sound))

pub returns-in-Sweeping-clause-sound : goal.returns-in-Sweeping-clause-sound
returns-in-Sweeping-clause-sound g c =
    let a = c.self.inside in
    open-in-step g.row.SLOTS a.ids a.stage a.red a.locked a.verdict a.sweep a.slot c.again.new.self (invariant_of-self-in-Sweeping g c)
