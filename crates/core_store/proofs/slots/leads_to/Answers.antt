use Rattle.std.proofs.Common.{◌≡◌, ◌≢◌, ℕ, Bool, slice_index_or, sym, ap, ◌∙◌, subst, ne_eqb, eq-eqb}
use Rattle.std.specs.Prelude.{◌&&◌}
use Rattle.cell_model.specs.Cells.{pointer_at}
use Rattle.core_store.specs.Changes.{is_counted_strong}
use Rattle.core_store.proofs.SlotStart.{old-of}
use Rattle.core_store.proofs.slots.leads_to.Goals as goal

pub returns-then-cell-slot : goal.returns-then-cell-slot
returns-then-cell-slot g c cells agree =
    let p = pointer_at cells c.args.id c.args.slot in
    let old = old-of c.cell.result.now cells c.args.id c.args.slot (c.cell.ensures.stored cells agree) in
    c.is_strong.ensures cells agree ∙ sym (ap (λ (b : Bool). b && is_counted_strong cells p) (eq-eqb p.target c.args.target (old ∙ c.if-cell-slot.true)))

pub returns-else-cell-slot : goal.returns-else-cell-slot
returns-else-cell-slot g c cells agree =
    let p = pointer_at cells c.args.id c.args.slot in
    let held = slice_index_or c.cell.result.now.slots c.args.slot 0 in
    let old : p.target ≡ held = old-of c.cell.result.now cells c.args.id c.args.slot (c.cell.ensures.stored cells agree) in
    let other : held ≢ c.args.target = c.if-cell-slot.false in
    ne_eqb held c.args.target other ∙ sym (ap (λ (b : Bool). b && is_counted_strong cells p) (ne_eqb p.target c.args.target (subst (λ (n : ℕ). n ≢ c.args.target) (sym old) other)))
