use Rattle.std.proofs.Common.{◌≡◌, ℕ, List, Bool, sym, ap, ◌∙◌, subst, rules}
use Rattle.red_walk.specs.Walk.{Walk}
use Rattle.green_walk.specs.Judged.{Judged, IsSeed, IsLive, Picks}
use Rattle.green_walk.specs.Sweeping.{SweepState as Sweep, IsSweep, started}
use Rattle.green_walk.specs.Greening.{Greening, IsGreening, started as green_started}
use Rattle.green_walk.proofs.GreenAnswers.{seeds-live}
use Rattle.core_store.specs.declared.round.Stage.TheVariants as stage
use Rattle.core_store.specs.declared.round_at.RoundAt.TheVariants as at
use Rattle.core_store.specs.RoundView.{Rounds, Sweeping, asked}
use Rattle.core_store.specs.RoundInside.{IsRowOf, AreInStep}
use Rattle.core_store.proofs.RoundLaws.{walk-of, open-in-step}
use Rattle.core_store.proofs.RoundJudged.{judge-asked, judged-in-step}
use Rattle.core_store.proofs.round.Round.judge.Goals as goal

pub start-requires-2 : goal.start-requires-2
start-requires-2 g c =
    let a = c.self.inside in
    let k = c.self.invariant in
    let x = judge-asked a.stage a.red a.sweep a.slot a.green (subst (λ (r : Rounds). asked r.view ≡ at.Judge) (sym c.self.view_is) c.requires.at) in
    (search rules, (search rules, (x.1, (k.walk_limit ∙ sym k.green_limit, (c.decide.ensures.limit ∙ (k.verdict_limit ∙ sym k.green_limit), seeds-live a.red c.note_locked.new.row c.args.refs.now c.decide.new.self.seeds c.decide.new.self.live c.decide.ensures.seeds c.decide.ensures.live)))))

pub invariant_of-self : goal.invariant_of-self
invariant_of-self g c =
    let a = c.self.inside in
    let k = c.self.invariant in
    let j = c.decide.new.self in
    let x = judge-asked a.stage a.red a.sweep a.slot a.green (subst (λ (r : Rounds). asked r.view ≡ at.Judge) (sym c.self.view_is) c.requires.at) in
    let swept : c.start.new.self ≡ started j.condemned a.ids = c.start.ensures.started ∙ ap (λ n. started j.condemned n) k.sweep_limit in
    subst (λ (s : Sweep). AreInStep g.row.SLOTS a.ids stage.Sweeping a.red c.note_locked.new.row j s 0 c.start-2.new.self) (sym swept)
    (subst (λ (h : Greening). AreInStep g.row.SLOTS a.ids stage.Sweeping a.red c.note_locked.new.row j (started j.condemned a.ids) 0 h) (sym c.start-2.ensures.started)
    (judged-in-step g.row.SLOTS a.ids a.stage a.red a.locked c.note_locked.new.row a.verdict j a.sweep a.slot a.green (IsLive a.red (IsSeed a.red c.note_locked.new.row c.args.refs.now)) k (subst IsSweep swept c.start.ensures.sound) (subst IsGreening c.start-2.ensures.started c.start-2.ensures.sound) x.0 (c.note_locked.ensures.room ∙ k.locked_limit) (c.decide.ensures.limit ∙ k.verdict_limit) c.decide.ensures.live c.decide.ensures.condemned))

pub returns-clause-judged : goal.returns-clause-judged
returns-clause-judged g c = λ w e.
    let a = c.self.inside in
    let limit = c.args.self.now.limit in
    let row = c.note_locked.new.row in
    let j = c.decide.new.self in
    let ids : a.ids ≡ limit = ap (λ (r : Rounds). r.limit) c.self.view_is in
    let same : a.red ≡ w = walk-of a.stage a.red a.sweep a.slot a.green w (ap (λ (r : Rounds). r.view) c.self.view_is ∙ e) in
    let swept : c.start.new.self ≡ started j.condemned limit = c.start.ensures.started ∙ ap (λ n. started j.condemned n) (c.self.invariant.sweep_limit ∙ ids) in
    let greens : c.start-2.new.self ≡ green_started g.row.SLOTS j a.red = c.start-2.ensures.started in
    let seen : (let r : Rounds = record { limit = a.ids; view = Sweeping a.red c.start.new.self 0 c.start-2.new.self } in r) ≡ record { limit = limit; view = Sweeping a.red (started j.condemned limit) 0 (green_started g.row.SLOTS j a.red) } = cc in
    subst
    (λ (x : Walk). (row : List Bool) × (j : Judged) × IsRowOf c.args.locks.now x.list row × Picks (IsSeed x row c.args.refs.now) x.list j.seeds × Picks (IsLive x (IsSeed x row c.args.refs.now)) x.list j.live × Picks (λ id. IsLive x (IsSeed x row c.args.refs.now) id → ⊥) x.list j.condemned × ((let r : Rounds = record { limit = a.ids; view = Sweeping a.red c.start.new.self 0 c.start-2.new.self } in r) ≡ record { limit = limit; view = Sweeping x (started j.condemned limit) 0 (green_started g.row.SLOTS j x) }))
    same
    (row, j, subst (λ (xs : List ℕ). IsRowOf c.args.locks.now xs row) c.list.ensures.ids c.note_locked.ensures.row, c.decide.ensures.seeds, c.decide.ensures.live, c.decide.ensures.condemned, seen)

pub returns-clause-sound : goal.returns-clause-sound
returns-clause-sound g c =
    let a = c.self.inside in
    open-in-step g.row.SLOTS a.ids stage.Sweeping a.red c.note_locked.new.row c.decide.new.self c.start.new.self 0 c.start-2.new.self (invariant_of-self g c)
