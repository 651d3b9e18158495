use Rattle.std.proofs.Common.{true, false, ap, sym, refl, ◌∙◌}
use Rattle.cell_model.specs.Cells.{Cell}
use Rattle.store_opening.proofs.RuleLaws.{wrong-strong, wrong-weak}
use Rattle.store_opening.proofs.counts.miscounts.Goals as goal

pub returns-then-cell-set-clause-broken : goal.returns-then-cell-set-clause-broken
returns-then-cell-set-clause-broken g c =
    let model = c.cell-cell.ensures.model in
    wrong-strong c.args.replay.now.cells c.args.id _ _ _ true (sym (ap (λ (d : Cell). d.live) model) ∙ c.if-not-cell.false) (ap (λ (d : Cell). d.strong) model) (sym (ap (λ (d : Cell). d.bit) model) ∙ c.if-cell.true)
    (c.requires.set.each c.args.id c.requires.within) c.own_strong-own.ensures

pub returns-else-cell-set-clause-broken : goal.returns-else-cell-set-clause-broken
returns-else-cell-set-clause-broken g c =
    let model = c.cell-cell.ensures.model in
    wrong-weak c.args.replay.now.cells c.args.id _ _ true false (sym (ap (λ (d : Cell). d.live) model) ∙ c.if-not-cell.false) (ap (λ (d : Cell). d.weak) model) (sym (ap (λ (d : Cell). d.bit) model) ∙ c.if-cell.true) refl
    (c.requires.clear.each c.args.id c.requires.within)

pub returns-then-cell-clear-clause-broken : goal.returns-then-cell-clear-clause-broken
returns-then-cell-clear-clause-broken g c =
    let model = c.cell-cell.ensures.model in
    wrong-strong c.args.replay.now.cells c.args.id _ _ _ false (sym (ap (λ (d : Cell). d.live) model) ∙ c.if-not-cell.false) (ap (λ (d : Cell). d.strong) model) (sym (ap (λ (d : Cell). d.bit) model) ∙ c.if-cell.false)
    (c.requires.clear.each c.args.id c.requires.within) c.own_strong-own.ensures

pub returns-else-cell-clear-clause-broken : goal.returns-else-cell-clear-clause-broken
returns-else-cell-clear-clause-broken g c =
    let model = c.cell-cell.ensures.model in
    wrong-weak c.args.replay.now.cells c.args.id _ _ false true (sym (ap (λ (d : Cell). d.live) model) ∙ c.if-not-cell.false) (ap (λ (d : Cell). d.weak) model) (sym (ap (λ (d : Cell). d.bit) model) ∙ c.if-cell.false) refl
    (c.requires.set.each c.args.id c.requires.within)
