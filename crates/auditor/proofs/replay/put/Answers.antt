use Rattle.std.proofs.Common.{map, sym, ◌∙◌}
use Rattle.std.proofs.lemmas.List.{map-set}
use Rattle.cell_model.proofs.EditLaws.{edit-set}
use Rattle.cell_page.specs.Stored.{cell_of}
use Rattle.auditor.proofs.replay.put.Goals as goal

pub returns-then-id-cells-clause-exact : goal.returns-then-id-cells-clause-exact
returns-then-id-cells-clause-exact g c = map-set cell_of c.args.cells.now c.args.id c.args.cell ∙ sym (edit-set (map cell_of c.args.cells.now) c.args.id (λ _. cell_of c.args.cell) c.if-id-ne0.true)
