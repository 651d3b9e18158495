use Rattle.std.proofs.Common.{ap, ◌∙◌, sym, arith}
use Rattle.std.specs.Prelude.{List}
use Rattle.cell_model.specs.Cells.{Cell, cell_at}
use Rattle.log_replay.proofs.PageLists.{cell_at-cells_of_pages}
use Rattle.log_replay.proofs.pages.Pages.know_first.Goals as goal

pub returns : goal.returns
returns g c = ap (λ (cells : List Cell). cell_at cells 0) (sym c.self.view_is) ∙ cell_at-cells_of_pages c.self.inside.pages.items 0 (omega arith)
