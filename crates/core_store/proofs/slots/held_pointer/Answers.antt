use Rattle.std.proofs.Common.{ap, ◌∙◌}
use Rattle.cell_model.specs.Cells.{Cell as StoredCell, pointer_in}
use Rattle.core_store.proofs.SlotStart.{old-of}
use Rattle.core_store.proofs.SlotEdits.{same-pointer}
use Rattle.core_store.proofs.slots.held_pointer.Goals as goal

pub returns-clause-stored : goal.returns-clause-stored
returns-clause-stored g c cells agree =
    let is = c.cell-cell.ensures.stored cells agree in
    same-pointer _ _ _ (old-of c.cell-cell.result.now cells c.args.id c.args.slot is) (c.pointer_bit.ensures.model ∙ ap (λ (s : StoredCell). (pointer_in s c.args.slot).bit) is)
