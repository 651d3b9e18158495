use Rattle.std.proofs.Common.{Bool, sym, ap, ◌∙◌}
use Rattle.cell_model.specs.Cells.{same, pointer_in}
use Rattle.cell_page.specs.Stored.{cell_of}
use Rattle.strength_counts.proofs.Slots.{target_in-pointers}
use Rattle.store_opening.proofs.CountLaws.{hit-counted, bit-missed, target-missed}
use Rattle.store_opening.proofs.counts.count_slot.Goals as goal

pub returns-then-is_same-clause-each : goal.returns-then-is_same-clause-each
returns-then-is_same-clause-each g c =
    let cell = c.args.cell.now in
    let bit = sym (ap (λ (b : Bool). same b c.args.bit) c.pointer_bit.ensures.model) ∙ (sym c.is_same.ensures ∙ c.if-is_same.true) in
    λ id within. hit-counted c.args.counts.now id _ c.args.bit (pointer_in (cell_of cell) c.args.slot) (target_in-pointers cell.bits 0 cell.slots c.args.slot) bit c.if-target-counts.true

pub returns-else-is_same-clause-each : goal.returns-else-is_same-clause-each
returns-else-is_same-clause-each g c =
    let bit = sym (ap (λ (b : Bool). same b c.args.bit) c.pointer_bit.ensures.model) ∙ (sym c.is_same.ensures ∙ c.if-is_same.false) in
    λ id within. bit-missed c.args.counts.now id c.args.bit (pointer_in (cell_of c.args.cell.now) c.args.slot) bit

pub returns-else-target-counts-clause-each : goal.returns-else-target-counts-clause-each
returns-else-target-counts-clause-each g c =
    let cell = c.args.cell.now in
    λ id within. target-missed c.args.counts.now id _ c.args.bit (pointer_in (cell_of cell) c.args.slot) (target_in-pointers cell.bits 0 cell.slots c.args.slot) c.if-target-counts.false within
