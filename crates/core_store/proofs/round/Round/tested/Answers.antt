use Rattle.std.proofs.Common.{◌≡◌, sym, subst, rules}
use Rattle.green_walk.specs.Greening.{Greening, IsGreening}
use Rattle.core_store.specs.declared.round_at.RoundAt.TheVariants as at
use Rattle.core_store.specs.RoundView.{Rounds, asked}
use Rattle.core_store.specs.RoundInside.{AreInStep}
use Rattle.core_store.proofs.RoundLaws.{test-in-hand, tested-in-step, open-in-step}
use Rattle.core_store.proofs.round.Round.tested.Goals as goal

pub test_on-requires : goal.test_on-requires
test_on-requires g c =
    let a = c.self.inside in
    (search rules, test-in-hand g.row.SLOTS a.stage a.red a.sweep a.slot c.requires.at.0 c.requires.at.1 a.green c.self.invariant.green_sound c.self.invariant.green_slots (subst (λ (r : Rounds). asked r.view ≡ at.Test c.requires.at.0 c.requires.at.1) (sym c.self.view_is) c.requires.at.2))

pub invariant_of-self : goal.invariant_of-self
invariant_of-self g c =
    let a = c.self.inside in
    subst (λ (x : Greening). AreInStep g.row.SLOTS a.ids a.stage a.red a.locked a.verdict a.sweep a.slot x) (sym c.test_on.ensures.tested)
    (tested-in-step g.row.SLOTS a.ids a.stage a.red a.locked a.verdict a.sweep a.slot c.requires.at.0 c.requires.at.1 a.green c.self.invariant (subst IsGreening c.test_on.ensures.tested c.test_on.ensures.sound) (subst (λ (r : Rounds). asked r.view ≡ at.Test c.requires.at.0 c.requires.at.1) (sym c.self.view_is) c.requires.at.2))

pub returns-clause-sound : goal.returns-clause-sound
returns-clause-sound g c =
    let a = c.self.inside in
    open-in-step g.row.SLOTS a.ids a.stage a.red a.locked a.verdict a.sweep a.slot c.test_on.new.self (invariant_of-self g c)
