use Rattle.std.proofs.Common.{rules, ◌≢◌, ◌≤◌, not, sym, subst, arith, ⊎_elim}
use Rattle.cell_model.specs.Cells.{Pointer, other_strength, edit, relink}
use Rattle.core_store.specs.Slots.{IsReadyToLose, IsReadyToGain, pointer_of}
use Rattle.core_store.proofs.SlotEdits.{object-ready, old-loses, old-gains, changed-relink, switch-changed}
use Rattle.core_store.proofs.slots.switch.Goals as goal

pub relink-requires : goal.relink-requires
relink-requires g c =
    let r = c.requires.ready in
    let small : g.row.SLOTS ≤ 14 = ⊎_elim (λ six. omega arith) (λ fourteen. omega arith) c.requires.size in
    (search rules, (c.requires.size, (object-ready c.args.held.now c.args.zeros.now.items c.args.id c.args.slot 0 r, (r.can.within, λ none. absurd (c.requires.some none)))))

pub turn-requires : goal.turn-requires
turn-requires g c =
    let r = c.requires.ready in
    let small : g.row.SLOTS ≤ 14 = ⊎_elim (λ six. omega arith) (λ fourteen. omega arith) c.requires.size in
    let held = c.args.held.now in
    let zeros = c.args.zeros.now.items in
    let to = other_strength (pointer_of c.args.from) in
    let is = c.requires.from r.cells r.agree in
    let some = subst (λ (p : Pointer). p.target ≢ 0) (sym is) c.requires.some in
    let laid = c.relink.ensures.stored r.cells r.agree in
    let loses = old-loses held zeros c.args.id c.args.slot 0 r to c.relink.new.held laid c.relink.ensures.pages some in
    let gains = old-gains held zeros c.args.id c.args.slot 0 r to c.relink.new.held laid c.relink.ensures.pages c.requires.size some (not c.args.from.bit) in (
      search rules,
      (
        c.requires.size,
        (subst (λ (p : Pointer). IsReadyToLose c.relink.new.held zeros p.target p.bit) is loses, subst (λ (p : Pointer). IsReadyToGain c.relink.new.held zeros p.target (not c.args.from.bit)) is gains),
      ),
    )

pub returns-clause-changed : goal.returns-clause-changed
returns-clause-changed g c cells agree =
    let held = c.args.held.now in
    let zeros = c.args.zeros.now.items in
    let from = pointer_of c.args.from in
    let ready = object-ready held zeros c.args.id c.args.slot 0 c.requires.ready in
    let laid = c.relink.ensures.stored cells agree in
    switch-changed cells c.args.id c.args.slot from (c.requires.from cells agree) held c.relink.new.held c.turn.new.held zeros c.turn.new.zeros.items c.relink.ensures.pages
    (changed-relink cells held c.relink.new.held zeros c.args.id c.args.slot (other_strength from) ready.page laid) (c.turn.ensures.changed (edit cells c.args.id (relink c.args.slot (other_strength from))) laid)
