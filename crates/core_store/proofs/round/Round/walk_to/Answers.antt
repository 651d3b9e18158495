use Rattle.std.proofs.Common.{◌≡◌, sym, subst}
use Rattle.green_walk.specs.Greening.{Greening, IsGreening}
use Rattle.core_store.specs.declared.round_at.RoundAt.TheVariants as at
use Rattle.core_store.specs.RoundView.{Rounds, asked}
use Rattle.core_store.specs.RoundInside.{AreInStep}
use Rattle.core_store.proofs.RoundLaws.{green-rounds, walked-to-in-step, open-in-step}
use Rattle.core_store.proofs.round.Round.walk_to.Goals as goal

pub invariant_of-self : goal.invariant_of-self
invariant_of-self g c =
    let a = c.self.inside in
    subst (λ (x : Greening). AreInStep g.row.SLOTS a.ids a.stage a.red a.locked a.verdict a.sweep a.slot x) (sym c.walk_to.ensures.walked)
    (walked-to-in-step g.row.SLOTS a.ids a.stage a.red a.locked a.verdict a.sweep a.slot c.requires.at.0 c.requires.at.1 c.args.slot a.green c.self.invariant (subst IsGreening c.walk_to.ensures.walked c.walk_to.ensures.sound) (subst (λ (r : Rounds). asked r.view ≡ at.Out c.requires.at.0 c.requires.at.1) (sym c.self.view_is) c.requires.at.2))

pub returns-clause-sound : goal.returns-clause-sound
returns-clause-sound g c =
    let a = c.self.inside in
    open-in-step g.row.SLOTS a.ids a.stage a.red a.locked a.verdict a.sweep a.slot c.walk_to.new.self (invariant_of-self g c)

pub returns-clause-walked : goal.returns-clause-walked
returns-clause-walked g c =
    let a = c.self.inside in
    green-rounds g.row.SLOTS a.ids a.stage a.red a.sweep a.slot c.args.slot a.green c.walk_to.new.self (at.Out c.requires.at.0 c.requires.at.1) c.args.self.now c.self.view_is tt c.requires.at.2 c.walk_to.ensures.walked
