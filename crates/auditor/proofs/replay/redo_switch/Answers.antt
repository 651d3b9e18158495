use Rattle.std.proofs.Common.{map, ap, ◌∙◌, arith}
use Rattle.std.proofs.lemmas.List.{length-map}
use Rattle.cell_model.specs.Cells.{Cell, relink, other_strength, pointer_in, pointer_at}
use Rattle.cell_page.specs.Stored.{cell_of}
use Rattle.auditor.proofs.EditSame.{edit-as}
use Rattle.auditor.proofs.replay.redo_switch.Goals as goal

pub returns-clause-exact : goal.returns-clause-exact
returns-clause-exact g c =
    let cells = map cell_of c.args.cells.now in
    c.put.ensures.exact ∙ edit-as cells c.args.id (relink c.args.slot (other_strength (pointer_at (map cell_of c.args.cells.now) c.args.id c.args.slot))) _ (λ within. (let at = c.get-cell.ensures.cell (let n = length-map c.args.cells.now cell_of in omega (arith, n, within)) in c.switch.ensures.model ∙ ap (λ (s : Cell). relink c.args.slot (other_strength (pointer_in s c.args.slot)) s) at))
