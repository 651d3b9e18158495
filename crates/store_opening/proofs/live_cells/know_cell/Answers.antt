use Rattle.std.proofs.Common.{length, ap, sym, ◌∙◌}
use Rattle.cell_model.specs.Cells.{Cell}
use Rattle.cell_page.proofs.PointerLemmas.{length-pointers_from}
use Rattle.store_opening.proofs.RuleLaws.{free-blank}
use Rattle.store_opening.proofs.live_cells.know_cell.Goals as goal

pub returns : goal.returns
returns g c =
    let cell = c.cell-cell.result.now in
    let model = c.cell-cell.ensures.model in
    record {
      slotted = ap (λ (d : Cell). length d.pointers) (sym model) ∙ (length-pointers_from cell.bits 0 cell.slots ∙ c.cell-cell.ensures.slotted);
      empty = λ dead. sym model ∙ free-blank c.args.id cell c.cell-cell.ensures.rules (ap (λ (d : Cell). d.live) model ∙ dead);
    }
