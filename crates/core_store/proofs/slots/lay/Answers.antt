use Rattle.std.proofs.Common.{rules, ◌≤◌, List, sym, subst, inl, arith, ⊎_elim}
use Rattle.cell_model.specs.Cells.{Cell as StoredCell, edit, relink, gains}
use Rattle.cell_model.proofs.EditLaws.{edit-none}
use Rattle.core_store.specs.Slots.{IsChanged, pointer_of}
use Rattle.core_store.proofs.SlotEdits.{gains-still, changed-relink, lay-changed}
use Rattle.core_store.proofs.slots.lay.Goals as goal

pub raise-requires : goal.raise-requires
raise-requires g c =
    let r = c.requires.room c.if-to-ne0.true in
    let small : g.row.SLOTS ≤ 14 = ⊎_elim (λ six. omega arith) (λ fourteen. omega arith) c.requires.size in
    let p = pointer_of c.args.to in
    let gains = gains-still c.args.held.now c.relink.new.held c.args.zeros.now.items p.target p.bit c.args.id c.args.slot p r (c.relink.ensures.stored r.cells r.agree) c.relink.ensures.pages in
    (search rules, (c.requires.size, gains))

pub returns-then-to-ne0-clause-changed : goal.returns-then-to-ne0-clause-changed
returns-then-to-ne0-clause-changed g c cells agree =
    let p = pointer_of c.args.to in
    let laid = c.relink.ensures.stored cells agree in
    let relinked = changed-relink cells c.args.held.now c.relink.new.held c.args.zeros.now.items c.args.id c.args.slot p c.requires.ready.page laid in
    lay-changed cells c.args.id c.args.slot p c.args.held.now c.relink.new.held c.raise.new.held c.args.zeros.now.items c.raise.new.zeros.items c.relink.ensures.pages relinked
    (c.raise.ensures.changed (edit cells c.args.id (relink c.args.slot p)) laid)

pub returns-else-to-ne0-clause-changed : goal.returns-else-to-ne0-clause-changed
returns-else-to-ne0-clause-changed g c cells agree =
    let p = pointer_of c.args.to in
    let laid = c.relink.ensures.stored cells agree in
    let one = edit cells c.args.id (relink c.args.slot p) in
    subst (λ (cs : List StoredCell). IsChanged cells cs c.args.held.now c.relink.new.held c.args.zeros.now.items c.args.zeros.now.items) (sym (edit-none one p.target (gains p.bit) (inl c.if-to-ne0.false)))
    (changed-relink cells c.args.held.now c.relink.new.held c.args.zeros.now.items c.args.id c.args.slot p c.requires.ready.page laid)
