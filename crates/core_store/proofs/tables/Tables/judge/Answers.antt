use Rattle.std.proofs.Common.{◌≡◌, sym, ap, ◌∙◌, subst, refl, None}
use Rattle.green_walk.specs.Sweeping.{started}
use Rattle.green_walk.specs.Greening.{started as green_started}
use Rattle.core_store.specs.RoundView.{RoundView, Rounds, Sweeping, IsInStep}
use Rattle.core_store.specs.declared.act.Act.TheVariants as act
use Rattle.core_store.specs.Collecting.{Collected}
use Rattle.core_store.specs.Views.{view_of}
use Rattle.core_store.proofs.AskedLaws.{asked-judge}
use Rattle.core_store.proofs.JudgeLaws.{judge-collected}
use Rattle.core_store.proofs.tables.Tables.judge.Goals as goal

pub returns-clause-collects : goal.returns-clause-collects
returns-clause-collects g c = λ held core h agree ready.
    let old = c.args.self.now in
    let v = view_of old in
    let x = asked-judge old.round.view c.requires.at in
    let r = c.judge.ensures.judged x.0 x.1 in
    let greens = green_started g.row.SLOTS r.1 x.0 in
    let there : c.judge.new.self.view ≡ Sweeping x.0 (started r.1.condemned v.ids) 0 greens = ap (λ (y : Rounds). y.view) r.6 ∙ ap (λ n. Sweeping x.0 (started r.1.condemned n) 0 greens) old.round_sized in
    let limit : c.judge.new.self.limit ≡ v.ids = ap (λ (y : Rounds). y.limit) r.6 ∙ old.round_sized in
    let step : IsInStep g.row.SLOTS v.ids (Sweeping x.0 (started r.1.condemned v.ids) 0 greens) = subst (λ (y : RoundView). IsInStep g.row.SLOTS v.ids y) there (subst (λ n. IsInStep g.row.SLOTS n c.judge.new.self.view) limit c.judge.ensures.sound) in
    subst (λ (y : RoundView). Collected g.row.SLOTS v (record v { round = y }) core held held act.Judge None) (sym there)
    (judge-collected g.row.SLOTS v core x.0 r.0 old.references r.1 h x.1 x.2 step r.2 (λ p. refl) r.3 r.4 r.5 agree)
