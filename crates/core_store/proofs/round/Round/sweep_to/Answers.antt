use Rattle.std.proofs.Common.{◌≡◌, sym, subst}
use Rattle.green_walk.specs.Sweeping.{SweepState as Sweep, IsSweep}
use Rattle.core_store.specs.declared.round_at.RoundAt.TheVariants as at
use Rattle.core_store.specs.RoundView.{Rounds, asked}
use Rattle.core_store.specs.RoundInside.{AreInStep}
use Rattle.core_store.proofs.RoundLaws.{cut-asked, cut-in-step, cut-on, cut-within, at-slot-in-step, open-in-step}
use Rattle.core_store.proofs.round.Round.sweep_to.Goals as goal

pub invariant_of-self : goal.invariant_of-self
invariant_of-self g c =
    let a = c.self.inside in
    let x = cut-asked a.stage a.red a.sweep a.slot c.requires.at.0 c.requires.at.1 a.green (subst (λ (r : Rounds). asked r.view ≡ at.Cut c.requires.at.0 c.requires.at.1) (sym c.self.view_is) c.requires.at.2) in
    subst (λ (s : Sweep). AreInStep g.row.SLOTS a.ids a.stage a.red a.locked a.verdict s 0 a.green) (sym c.found.ensures.found)
    (cut-in-step g.row.SLOTS a.ids a.stage a.red a.locked a.verdict a.sweep a.slot c.requires.at.0 a.green c.self.invariant (subst IsSweep c.found.ensures.found c.found.ensures.sound) x.1)

pub returns-then-slot-clause-sound : goal.returns-then-slot-clause-sound
returns-then-slot-clause-sound g c =
    let a = c.self.inside in
    open-in-step g.row.SLOTS a.ids a.stage a.red a.locked a.verdict c.found.new.self 0 a.green (invariant_of-self g c)

pub returns-else-slot-clause-sound : goal.returns-else-slot-clause-sound
returns-else-slot-clause-sound g c =
    let a = c.self.inside in
    open-in-step g.row.SLOTS a.ids a.stage a.red a.locked a.verdict a.sweep c.args.slot a.green
    (at-slot-in-step g.row.SLOTS a.ids a.stage a.red a.locked a.verdict a.sweep a.slot c.args.slot a.green c.self.invariant c.requires.within c.if-slot.false)

pub returns-then-slot-clause-looked : goal.returns-then-slot-clause-looked
returns-then-slot-clause-looked g c =
    let a = c.self.inside in
    cut-on g.row.SLOTS a.ids a.stage a.red a.sweep c.found.new.self a.slot c.requires.at.0 c.requires.at.1 c.args.slot a.green c.args.self.now c.self.view_is c.requires.at.2 c.if-slot.true c.found.ensures.found

pub returns-else-slot-clause-looked : goal.returns-else-slot-clause-looked
returns-else-slot-clause-looked g c =
    let a = c.self.inside in
    cut-within g.row.SLOTS a.ids a.stage a.red a.sweep a.slot c.requires.at.0 c.requires.at.1 c.args.slot a.green c.args.self.now c.self.view_is c.requires.at.2 c.if-slot.false
