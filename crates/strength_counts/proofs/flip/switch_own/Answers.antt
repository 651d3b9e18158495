use Rattle.std.proofs.Common.{◌≡◌, Bool, not, sym, ap, ◌∙◌, arith}
use Rattle.cell_model.specs.Cells.{Pointer, relink, pointer_in}
use Rattle.cell_page.specs.Stored.{cell_of}
use Rattle.strength_counts.proofs.Slots.{target_in-pointers, switched-own, relink-other}
use Rattle.strength_counts.proofs.flip.switch_own.Goals as goal

pub returns-then-cell-slot-clause-model : goal.returns-then-cell-slot-clause-model
returns-then-cell-slot-clause-model g c =
    let cell = c.args.cell.now in
    let stored = cell_of cell in
    let pointer = pointer_in stored c.args.slot in
    let own : pointer.target ≡ cell.id = target_in-pointers cell.bits 0 cell.slots c.args.slot ∙ c.if-cell-slot.true in
    c.set_pointer.ensures.model
    ∙ ap (λ (b : Bool). relink c.args.slot (record { target = cell.id; bit = not b }) stored) c.pointer_bit-bit.ensures.model
    ∙ ap (λ (p : Pointer). relink c.args.slot p stored) (switched-own cell.id pointer own)

pub returns-then-cell-slot-clause-rules : goal.returns-then-cell-slot-clause-rules
returns-then-cell-slot-clause-rules g c = c.set_pointer.ensures.rules c.args.cell.now.id c.requires.rules c.requires.live (λ e. absurd (let above = c.requires.above in omega (arith, above, e)))

pub returns-else-cell-slot-clause-model : goal.returns-else-cell-slot-clause-model
returns-else-cell-slot-clause-model g c =
    let cell = c.args.cell.now in
    relink-other cell.id c.args.slot (cell_of cell) (λ e. c.if-cell-slot.false (sym (target_in-pointers cell.bits 0 cell.slots c.args.slot) ∙ e))
