use Rattle.std.proofs.Common.{◌≡◌, sym, subst}
use Rattle.red_walk.specs.Walk.{Walk, IsWalk}
use Rattle.green_walk.specs.declared.sweep.Found.TheVariants.{Made}
use Rattle.green_walk.specs.Sweeping.{SweepState as Sweep, IsSweep, found}
use Rattle.core_store.specs.declared.round_at.RoundAt.TheVariants as at
use Rattle.core_store.specs.RoundView.{Rounds, asked}
use Rattle.core_store.specs.RoundInside.{AreInStep}
use Rattle.core_store.proofs.RoundLaws.{free-asked, freed-in-step, open-in-step}
use Rattle.core_store.proofs.round.Round.freed.Goals as goal

pub invariant_of-self : goal.invariant_of-self
invariant_of-self g c =
    let a = c.self.inside in
    let x = free-asked a.stage a.red a.sweep a.slot c.args.id a.green (subst (λ (r : Rounds). asked r.view ≡ at.Free c.args.id) (sym c.self.view_is) c.requires.at) in
    subst (λ (s : Sweep). AreInStep g.row.SLOTS a.ids a.stage c.remove.new.self a.locked a.verdict s a.slot a.green) (sym c.found.ensures.found)
    (subst (λ (w : Walk). AreInStep g.row.SLOTS a.ids a.stage w a.locked a.verdict (found a.sweep (Made c.args.id)) a.slot a.green) (sym c.remove.ensures.removed)
    (freed-in-step g.row.SLOTS a.ids a.stage a.red a.locked a.verdict a.sweep a.slot c.args.id a.green c.self.invariant (subst (λ (w : Walk). IsWalk g.row.SLOTS w) c.remove.ensures.removed c.remove.ensures.sound) (subst IsSweep c.found.ensures.found c.found.ensures.sound) x.0 x.1))

pub returns-clause-sound : goal.returns-clause-sound
returns-clause-sound g c =
    let a = c.self.inside in
    open-in-step g.row.SLOTS a.ids a.stage c.remove.new.self a.locked a.verdict c.found.new.self a.slot a.green (invariant_of-self g c)
