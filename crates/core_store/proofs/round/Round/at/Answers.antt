use Rattle.std.proofs.Common.{subst}
use Rattle.core_store.specs.RoundView.{Rounds}
use Rattle.core_store.specs.RoundView.{IsInStep}
use Rattle.core_store.proofs.RoundLaws.{open-in-step}
use Rattle.core_store.proofs.round.Round.at.Goals as goal

pub returns-in-Slots-clause-sound : goal.returns-in-Slots-clause-sound
returns-in-Slots-clause-sound g c =
    let a = c.self.inside in
    subst (λ (r : Rounds). IsInStep g.row.SLOTS r.limit r.view) c.self.view_is (open-in-step g.row.SLOTS a.ids a.stage a.red a.locked a.verdict a.sweep a.slot a.green c.self.invariant)

pub returns-in-Free-clause-sound : goal.returns-in-Free-clause-sound
returns-in-Free-clause-sound g c =
    let a = c.self.inside in
    subst (λ (r : Rounds). IsInStep g.row.SLOTS r.limit r.view) c.self.view_is (open-in-step g.row.SLOTS a.ids a.stage a.red a.locked a.verdict a.sweep a.slot a.green c.self.invariant)

pub returns-in-End-clause-sound : goal.returns-in-End-clause-sound
returns-in-End-clause-sound g c =
    let a = c.self.inside in
    subst (λ (r : Rounds). IsInStep g.row.SLOTS r.limit r.view) c.self.view_is (open-in-step g.row.SLOTS a.ids a.stage a.red a.locked a.verdict a.sweep a.slot a.green c.self.invariant)
