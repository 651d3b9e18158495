use Rattle.std.proofs.Common.{ap, sym, ◌∙◌}
use Rattle.cell_model.specs.Cells.{Cell, pointer_in}
use Rattle.strength_counts.proofs.Slots.{target_in-pointers}
use Rattle.store_opening.proofs.live_cells.target_at.Goals as goal

pub returns : goal.returns
returns g c =
    let cell = c.cell.result.now in
    sym (target_in-pointers cell.bits 0 cell.slots c.args.slot) ∙ ap (λ (d : Cell). (pointer_in d c.args.slot).target) c.cell.ensures.model
