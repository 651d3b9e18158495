use Rattle.std.proofs.Common.{ap, ◌∙◌}
use Rattle.std.specs.Prelude.{◌==◌}
use Rattle.cell_model.specs.Cells.{Cell as StoredCell, gains}
use Rattle.cell_page.specs.declared.cell.Cell.{Cell}
use Rattle.cell_page.specs.Stored.{without_counts}
use Rattle.cell_page.proofs.PageEdits.{edited, edited-others, edited-at, edited-rules}
use Rattle.cell_page.proofs.page.Page.gain.Goals as goal

pub returns-clause-zero : goal.returns-clause-zero
returns-clause-zero g c =
    c.gain.ensures.zero ∙ ap (λ (s : StoredCell). s.strong == 0) (edited-at c.self.inside.cells c.args.self.now c.args.id c.index-self-id.result c.gain.new.self c.self.view_is c.self.invariant.0)

pub returns-clause-model : goal.returns-clause-model
returns-clause-model g c =
    edited c.self.inside.cells c.args.self.now c.args.id c.index-self-id.result c.gain.new.self c.self.view_is c.self.invariant.0 (gains c.args.bit) c.gain.ensures.model

pub returns-clause-others : goal.returns-clause-others
returns-clause-others g c =
    edited-others c.self.inside.cells c.args.self.now c.args.id c.index-self-id.result c.gain.new.self c.self.view_is c.self.invariant.0 (λ s. without_counts s) (ap (λ (s : Cell g.row.SLOTS). without_counts s) c.gain.ensures.others)

pub returns-clause-rules : goal.returns-clause-rules
returns-clause-rules g c =
    edited-rules c.self.inside.cells c.args.self.now c.args.id c.index-self-id.result c.gain.new.self c.self.view_is c.self.invariant.0 c.gain.ensures.rules
