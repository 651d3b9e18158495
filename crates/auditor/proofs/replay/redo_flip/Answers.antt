use Rattle.std.proofs.Common.{not, map, ap, ◌∙◌, arith}
use Rattle.std.proofs.lemmas.List.{length-map}
use Rattle.cell_model.specs.Cells.{Cell}
use Rattle.cell_page.specs.Stored.{cell_of}
use Rattle.auditor.specs.Replay.{switched_over}
use Rattle.auditor.proofs.EditSame.{edit-as}
use Rattle.auditor.proofs.replay.redo_flip.Goals as goal

pub returns-clause-exact : goal.returns-clause-exact
returns-clause-exact g c =
    let cells = map cell_of c.args.cells.now in
    c.put.ensures.exact ∙ edit-as cells c.args.id (switched_over c.args.id) _ (λ within. (let at = c.get-cell.ensures.cell (let n = length-map c.args.cells.now cell_of in omega (arith, n, within)) in ap (λ (s : Cell). let d : Cell = record s { bit = not s.bit } in d) c.switch_all.ensures ∙ ap (switched_over c.args.id) at))
