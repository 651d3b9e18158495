use Rattle.std.proofs.Common.{ap, ◌∙◌}
use Rattle.cell_model.specs.Cells.{Cell as StoredCell}
use Rattle.cell_model.proofs.EditLaws.{loses-shape}
use Rattle.cell_page.specs.Stored.{cell_of}
use Rattle.cell_page.proofs.cell.Cell.turn.Goals as goal

pub returns-clause-rules : goal.returns-clause-rules
returns-clause-rules g c = λ id rules live.
    let alive = ap (λ (s : StoredCell). s.live) c.lose.ensures.model ∙ (ap (λ s. s.0) (loses-shape c.args.bit (cell_of c.args.self.now)) ∙ live) in
    c.gain.ensures.rules id (c.lose.ensures.rules id rules live) alive
