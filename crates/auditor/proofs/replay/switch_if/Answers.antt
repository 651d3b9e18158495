use Rattle.std.proofs.Common.{◌≡◌, Bool, cond, sym, ap, ◌∙◌, eq-eqb}
use Rattle.cell_model.specs.Cells.{relink, pointer_in, other_strength}
use Rattle.cell_page.specs.Stored.{cell_of}
use Rattle.strength_counts.proofs.Slots.{target_in-pointers, relink-other}
use Rattle.auditor.proofs.replay.switch_if.Goals as goal

pub returns-then-cell-slot-clause-model : goal.returns-then-cell-slot-clause-model
returns-then-cell-slot-clause-model g c =
    let cell = c.args.cell.now in
    let p = pointer_in (cell_of cell) c.args.slot in
    let own : p.target ≡ c.args.id = target_in-pointers cell.bits 0 cell.slots c.args.slot ∙ c.if-cell-slot.true in
    c.switch.ensures.model ∙ ap (λ (b : Bool). relink c.args.slot (cond b (other_strength p) p) (cell_of cell)) (sym (eq-eqb p.target c.args.id own))

pub returns-else-cell-slot-clause-model : goal.returns-else-cell-slot-clause-model
returns-else-cell-slot-clause-model g c =
    let cell = c.args.cell.now in
    relink-other c.args.id c.args.slot (cell_of cell) (λ e. c.if-cell-slot.false (sym (target_in-pointers cell.bits 0 cell.slots c.args.slot) ∙ e))
