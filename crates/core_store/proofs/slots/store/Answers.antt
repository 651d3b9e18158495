use Rattle.std.proofs.Common.{rules, ℕ, ◌≢◌, ◌≤◌, sym, ap, ◌∙◌, subst, arith, ⊎_elim}
use Rattle.cell_model.specs.Cells.{Pointer, edit, loses}
use Rattle.core_store.specs.Changes.{is_counted_strong, bit_for}
use Rattle.core_store.specs.Slots.{IsReadyToLose, IsReadyToGain, pointer_of}
use Rattle.core_store.proofs.SlotStart.{same-change}
use Rattle.core_store.proofs.SlotEdits.{object-ready, from-loses, object-then, target-then, target-gains, gone-bit, gone-strong, filled-changed}
use Rattle.core_store.proofs.slots.store.Goals as goal

pub held_pointer-from-requires : goal.held_pointer-from-requires
held_pointer-from-requires g c =
    let r = c.requires.ready in
    let small : g.row.SLOTS ≤ 14 = ⊎_elim (λ six. omega arith) (λ fourteen. omega arith) c.requires.size in
    (search rules, (c.requires.size, (object-ready c.args.held.now c.args.zeros.now.items c.args.id c.args.slot c.args.target r, r.can.within)))

pub let_go-old_strong-requires : goal.let_go-old_strong-requires
let_go-old_strong-requires g c =
    let r = c.requires.ready in
    let small : g.row.SLOTS ≤ 14 = ⊎_elim (λ six. omega arith) (λ fourteen. omega arith) c.requires.size in
    let is = c.held_pointer-from.ensures.stored r.cells r.agree in
    let loses = from-loses c.args.held.now c.args.zeros.now.items c.args.id c.args.slot c.args.target r in
    (search rules, (c.requires.size, ((r.cells, r.agree), λ some. subst (λ (p : Pointer). IsReadyToLose c.args.held.now c.args.zeros.now.items p.target p.bit) is (loses (subst (λ (p : Pointer). p.target ≢ 0) (sym is) some)))))

pub new_pointer-new_strong-requires : goal.new_pointer-new_strong-requires
new_pointer-new_strong-requires g c =
    let r = c.requires.ready in
    let small : g.row.SLOTS ≤ 14 = ⊎_elim (λ six. omega arith) (λ fourteen. omega arith) c.requires.size in
    let gone = c.let_go-old_strong in
    let changed = gone.ensures.changed r.cells r.agree in
    let ready = target-then c.args.held.now c.args.zeros.now.items c.args.id c.args.slot c.args.target r (pointer_of c.held_pointer-from.result) gone.new.held gone.new.zeros.items changed gone.ensures.pages gone.ensures.marks in
    (search rules, ((edit r.cells _ (loses _), changed.agree), ready))

pub lay-requires : goal.lay-requires
lay-requires g c =
    let r = c.requires.ready in
    let small : g.row.SLOTS ≤ 14 = ⊎_elim (λ six. omega arith) (λ fourteen. omega arith) c.requires.size in
    let held = c.args.held.now in
    let zeros = c.args.zeros.now.items in
    let gone = c.let_go-old_strong in
    let from = pointer_of c.held_pointer-from.result in
    let changed = gone.ensures.changed r.cells r.agree in
    let object = object-then held zeros c.args.id c.args.slot c.args.target r from gone.new.held gone.new.zeros.items changed gone.ensures.pages gone.ensures.marks in
    let gains = target-gains held zeros c.args.id c.args.slot c.args.target r from gone.new.held gone.new.zeros.items changed gone.ensures.pages gone.ensures.marks c.requires.size in
    let new = c.new_pointer-new_strong in
    let target = new.ensures.target in
    (search rules, (c.requires.size, (object, (r.can.within, (λ none. new.ensures.null (sym target ∙ none), λ some. subst (λ (t : ℕ). IsReadyToGain gone.new.held gone.new.zeros.items t (new.result.0).bit) (sym target) (gains (λ none. some (target ∙ none)) (new.result.0).bit))))))

pub returns-clause-changes : goal.returns-clause-changes
returns-clause-changes g c ids all agree can =
    let id = c.args.id in
    let slot = c.args.slot in
    let target = c.args.target in
    let gone = c.let_go-old_strong in
    let from = pointer_of c.held_pointer-from.result in
    let is = c.held_pointer-from.ensures.stored all agree in
    let first = gone.ensures.changed all agree in
    let between = edit all from.target (loses from.bit) in
    let new = c.new_pointer-new_strong in
    let second = c.lay.ensures.changed between first.agree in
    let to = pointer_of new.result.0 in
    let strong = new.ensures.strong between first.agree ∙ gone-strong all id slot from is target in
    let bit = new.ensures.bit between first.agree ∙ gone-bit all id slot from is target new.result.1 ∙ ap (bit_for all target) strong in (
      same-change _ _ _ _ _ _ _ _ (ap (λ (p : Pointer). p.target) (sym is)) (gone.ensures.strong all agree ∙ ap (is_counted_strong all) (sym is)) bit strong,
      filled-changed all id slot from is to target c.args.held.now gone.new.held c.lay.new.held c.args.zeros.now.items gone.new.zeros.items c.lay.new.zeros.items new.ensures.target first second gone.ensures.pages,
    )
