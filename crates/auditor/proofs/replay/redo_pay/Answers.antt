use Rattle.std.proofs.Common.{map, ap, ◌∙◌, arith}
use Rattle.std.proofs.lemmas.List.{length-map}
use Rattle.cell_model.specs.Cells.{pays}
use Rattle.cell_page.specs.Stored.{cell_of}
use Rattle.auditor.proofs.EditSame.{edit-as}
use Rattle.auditor.proofs.replay.redo_pay.Goals as goal

pub returns-clause-exact : goal.returns-clause-exact
returns-clause-exact g c =
    let cells = map cell_of c.args.cells.now in
    c.put.ensures.exact ∙ edit-as cells c.args.id (pays c.args.value) _ (λ within. (let at = c.get-cell.ensures.cell (let n = length-map c.args.cells.now cell_of in omega (arith, n, within)) in ap (pays c.args.value) at))
