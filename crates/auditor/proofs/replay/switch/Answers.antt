use Rattle.std.proofs.Common.{ℕ, ◌≤◌, Bool, not, length, sym, ap, ◌∙◌, arith}
use Rattle.cell_model.specs.Cells.{relink, pointer_in, other_strength}
use Rattle.cell_page.specs.Stored.{cell_of}
use Rattle.strength_counts.proofs.Slots.{target_in-pointers}
use Rattle.auditor.proofs.CountLaws.{relink-past}
use Rattle.auditor.proofs.replay.switch.Goals as goal

pub returns-then-slot-clause-model : goal.returns-then-slot-clause-model
returns-then-slot-clause-model g c =
    let cell = c.args.cell.now in
    c.set_pointer.ensures.model
    ∙ (ap (λ (t : ℕ). relink c.args.slot (record { target = t; bit = not c.pointer_bit-bit.result }) (cell_of cell)) (sym (target_in-pointers cell.bits 0 cell.slots c.args.slot))
    ∙ ap (λ (b : Bool). relink c.args.slot (record { target = (pointer_in (cell_of cell) c.args.slot).target; bit = not b }) (cell_of cell)) c.pointer_bit-bit.ensures.model)

pub returns-else-slot-clause-model : goal.returns-else-slot-clause-model
returns-else-slot-clause-model g c =
    let past : length c.args.cell.now.slots ≤ c.args.slot = omega (arith, c.requires.count, c.if-slot.false) in
    relink-past c.args.cell.now c.args.slot (other_strength (pointer_in (cell_of c.args.cell.now) c.args.slot)) past
