use Rattle.std.proofs.Common.{rules, ◌≡◌, ◌≤◌, ◌<◌, ℕ, true, refl, sym, ap, ◌∙◌, subst, arith, ⊎_elim}
use Rattle.cell_model.specs.Cells.{pointer_at}
use Rattle.core_store.specs.declared.round_at.RoundAt.TheVariants as at
use Rattle.core_store.specs.RoundView.{is_event}
use Rattle.core_store.specs.RoundView.{IsSlotLook, Rounds}
use Rattle.core_store.specs.Views.{view_of}
use Rattle.core_store.proofs.LookOnLaws.{first-within, gone-to}
use Rattle.core_store.proofs.NullLaws.{null-there, slot-live, slot-pages}
use Rattle.core_store.proofs.PassLaws.{passed-none}
use Rattle.std.proofs.lemmas.Bool.{ne_eqb}
use Rattle.std.specs.Prelude.{not, ◌≢◌}
use Rattle.core_store.proofs.SlotStart.{old-of}
use Rattle.core_store.proofs.tables.Tables.look_for_pointer.Goals as goal

pub cell-requires : goal.cell-requires
cell-requires g c =
    let r = c.requires.standing in
    let small : g.row.SLOTS ≤ 14 = ⊎_elim (λ six. omega arith) (λ fourteen. omega arith) r.stands.counted in
    let a = at.Cut c.args.id c.args.slot in
    let t = null-there r.stands a c.args.id c.args.slot c.requires.at refl in
    let live = slot-live r.stands a c.args.id c.args.slot c.requires.at refl in
    (search rules, (search rules, ((t.0, t.1), ((slot-pages r.stands c.args.held.now c.args.id c.args.slot live c.requires.all).0, (r.core.cells, r.agree)))))

pub next_pointer-place-requires : goal.next_pointer-place-requires
next_pointer-place-requires g c =
    let within = first-within (view_of {slots = g.row.SLOTS} c.args.self.now) c.args.held.now c.requires.standing (at.Cut c.args.id c.args.slot) c.args.id c.args.slot refl c.requires.at in
    (search rules, omega (arith, within))

pub look_to-requires : goal.look_to-requires
look_to-requires g c =
    let small : g.row.SLOTS ≤ 14 = ⊎_elim (λ six. omega arith) (λ fourteen. omega arith) c.requires.standing.stands.counted in
    (search rules, (subst IsSlotLook (sym c.requires.at) tt, c.next_pointer-place.ensures.within))

pub invariant_of-self : goal.invariant_of-self
invariant_of-self g c =
    let t = c.args.self.now in
    record { free_sized = t.free_sized; owes = t.owes; queue_sized = t.queue_sized; named_sized = t.named_sized; round_sized = ap (λ (r : Rounds). r.limit) c.look_to.ensures.looked ∙ t.round_sized }

pub returns-then-place-first-clause-passed : goal.returns-then-place-first-clause-passed
returns-then-place-first-clause-passed g c = passed-none g.row.SLOTS (view_of {slots = g.row.SLOTS} c.args.self.now) c.args.held.now

pub returns-then-place-first-clause-event : goal.returns-then-place-first-clause-event
returns-then-place-first-clause-event g c =
    let within = first-within (view_of {slots = g.row.SLOTS} c.args.self.now) c.args.held.now c.requires.standing (at.Cut c.args.id c.args.slot) c.args.id c.args.slot refl c.requires.at in
    let same = c.if-place-first.true in
    let l : c.next_pointer-place.result < g.row.SLOTS = omega (arith, within, same) in
    record { next = sym c.requires.at; event = λ d h agree. subst (λ (n : ℕ). is_event d.cells (at.Cut c.args.id n) ≡ true) same (ap not (ne_eqb (pointer_at d.cells c.args.id c.next_pointer-place.result).target 0 (subst (λ (n : ℕ). n ≢ 0) (sym (old-of c.cell.result.now d.cells c.args.id c.next_pointer-place.result (c.cell.ensures.stored d.cells agree))) (c.next_pointer-place.ensures.pointer l)))) }

pub returns-then-place-clause-passed : goal.returns-then-place-clause-passed
returns-then-place-clause-passed g c = (gone-to (view_of {slots = g.row.SLOTS} c.args.self.now) c.args.held.now c.requires.standing (at.Cut c.args.id c.args.slot) c.args.id c.args.slot refl c.requires.at c.look_to.new.self.view c.next_pointer-place.result c.next_pointer-place.ensures.behind c.if-place-first.false c.next_pointer-place.ensures.within (λ k a b d h agree. old-of c.cell.result.now d.cells c.args.id k (c.cell.ensures.stored d.cells agree) ∙ c.next_pointer-place.ensures.nulls k a b) (ap (λ (r : Rounds). r.view) c.look_to.ensures.looked)).passed

pub returns-then-place-clause-lower : goal.returns-then-place-clause-lower
returns-then-place-clause-lower g c e = (gone-to (view_of {slots = g.row.SLOTS} c.args.self.now) c.args.held.now c.requires.standing (at.Cut c.args.id c.args.slot) c.args.id c.args.slot refl c.requires.at c.look_to.new.self.view c.next_pointer-place.result c.next_pointer-place.ensures.behind c.if-place-first.false c.next_pointer-place.ensures.within (λ k a b d h agree. old-of c.cell.result.now d.cells c.args.id k (c.cell.ensures.stored d.cells agree) ∙ c.next_pointer-place.ensures.nulls k a b) (ap (λ (r : Rounds). r.view) c.look_to.ensures.looked)).lower

pub returns-clause-passed : goal.returns-clause-passed
returns-clause-passed g c = (gone-to (view_of {slots = g.row.SLOTS} c.args.self.now) c.args.held.now c.requires.standing (at.Cut c.args.id c.args.slot) c.args.id c.args.slot refl c.requires.at c.look_to.new.self.view c.next_pointer-place.result c.next_pointer-place.ensures.behind c.if-place-first.false c.next_pointer-place.ensures.within (λ k a b d h agree. old-of c.cell.result.now d.cells c.args.id k (c.cell.ensures.stored d.cells agree) ∙ c.next_pointer-place.ensures.nulls k a b) (ap (λ (r : Rounds). r.view) c.look_to.ensures.looked)).passed

pub returns-clause-event : goal.returns-clause-event
returns-clause-event g c =
    let within = c.next_pointer-place.ensures.within in
    let other = c.if-place.false in
    let l : c.next_pointer-place.result < g.row.SLOTS = omega (arith, within, other) in
    record { next = sym ((gone-to (view_of {slots = g.row.SLOTS} c.args.self.now) c.args.held.now c.requires.standing (at.Cut c.args.id c.args.slot) c.args.id c.args.slot refl c.requires.at c.look_to.new.self.view c.next_pointer-place.result c.next_pointer-place.ensures.behind c.if-place-first.false c.next_pointer-place.ensures.within (λ k a b d h agree. old-of c.cell.result.now d.cells c.args.id k (c.cell.ensures.stored d.cells agree) ∙ c.next_pointer-place.ensures.nulls k a b) (ap (λ (r : Rounds). r.view) c.look_to.ensures.looked)).next l); event = λ d h agree. ap not (ne_eqb (pointer_at d.cells c.args.id c.next_pointer-place.result).target 0 (subst (λ (n : ℕ). n ≢ 0) (sym (old-of c.cell.result.now d.cells c.args.id c.next_pointer-place.result (c.cell.ensures.stored d.cells agree))) (c.next_pointer-place.ensures.pointer l))) }
