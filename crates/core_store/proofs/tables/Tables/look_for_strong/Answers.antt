use Rattle.std.proofs.Common.{rules, ◌≡◌, ◌≤◌, ◌<◌, ℕ, true, refl, sym, ap, ◌∙◌, subst, arith, ⊎_elim}
use Rattle.cell_model.specs.Cells.{pointer_at}
use Rattle.core_store.specs.declared.round_at.RoundAt.TheVariants as at
use Rattle.core_store.specs.Changes.{is_counted_strong}
use Rattle.core_store.specs.RoundView.{IsSlotLook, Rounds}
use Rattle.core_store.specs.Views.{view_of}
use Rattle.core_store.proofs.LookOnLaws.{first-within, gone-to}
use Rattle.core_store.proofs.NullLaws.{null-there, slot-live, slot-pages}
use Rattle.core_store.proofs.PassLaws.{passed-none}
use Rattle.core_store.proofs.PlanWork.{small-targets}
use Rattle.core_store.proofs.tables.Tables.look_for_strong.Goals as goal

pub first_strong-place-requires : goal.first_strong-place-requires
first_strong-place-requires g c =
    let r = c.requires.standing in
    let small : g.row.SLOTS ≤ 14 = ⊎_elim (λ six. omega arith) (λ fourteen. omega arith) r.stands.counted in
    let a = at.Look c.args.id c.args.slot in
    let t = null-there r.stands a c.args.id c.args.slot c.requires.at refl in
    let live = slot-live r.stands a c.args.id c.args.slot c.requires.at refl in
    let within = t.2 in
    (search rules, (r.stands.counted, (record { above = t.0; small = t.1; change = tt }, (omega (arith, within), (r.core.cells, r.agree, small-targets r.stands, λ k l. slot-pages r.stands c.args.held.now c.args.id k live c.requires.all)))))

pub look_to-requires : goal.look_to-requires
look_to-requires g c =
    let small : g.row.SLOTS ≤ 14 = ⊎_elim (λ six. omega arith) (λ fourteen. omega arith) c.requires.standing.stands.counted in
    (search rules, (subst IsSlotLook (sym c.requires.at) tt, c.first_strong-place.ensures.within))

pub invariant_of-self : goal.invariant_of-self
invariant_of-self g c =
    let t = c.args.self.now in
    record { free_sized = t.free_sized; owes = t.owes; queue_sized = t.queue_sized; named_sized = t.named_sized; round_sized = ap (λ (r : Rounds). r.limit) c.look_to.ensures.looked ∙ t.round_sized }

pub returns-then-place-slot-clause-passed : goal.returns-then-place-slot-clause-passed
returns-then-place-slot-clause-passed g c = passed-none g.row.SLOTS (view_of {slots = g.row.SLOTS} c.args.self.now) c.args.held.now

pub returns-then-place-slot-clause-event : goal.returns-then-place-slot-clause-event
returns-then-place-slot-clause-event g c =
    let within = first-within (view_of {slots = g.row.SLOTS} c.args.self.now) c.args.held.now c.requires.standing (at.Look c.args.id c.args.slot) c.args.id c.args.slot refl c.requires.at in
    let same = c.if-place-slot.true in
    let l : c.first_strong-place.result < g.row.SLOTS = omega (arith, within, same) in
    record { next = sym c.requires.at; event = λ d h agree. subst (λ (n : ℕ). is_counted_strong d.cells (pointer_at d.cells c.args.id n) ≡ true) same (c.first_strong-place.ensures.strong l d.cells agree) }

pub returns-then-place-clause-passed : goal.returns-then-place-clause-passed
returns-then-place-clause-passed g c = (gone-to (view_of {slots = g.row.SLOTS} c.args.self.now) c.args.held.now c.requires.standing (at.Look c.args.id c.args.slot) c.args.id c.args.slot refl c.requires.at c.look_to.new.self.view c.first_strong-place.result c.first_strong-place.ensures.behind c.if-place-slot.false c.first_strong-place.ensures.within (λ k a b d h agree. c.first_strong-place.ensures.weak d.cells agree k a b) (ap (λ (r : Rounds). r.view) c.look_to.ensures.looked)).passed

pub returns-then-place-clause-lower : goal.returns-then-place-clause-lower
returns-then-place-clause-lower g c e = (gone-to (view_of {slots = g.row.SLOTS} c.args.self.now) c.args.held.now c.requires.standing (at.Look c.args.id c.args.slot) c.args.id c.args.slot refl c.requires.at c.look_to.new.self.view c.first_strong-place.result c.first_strong-place.ensures.behind c.if-place-slot.false c.first_strong-place.ensures.within (λ k a b d h agree. c.first_strong-place.ensures.weak d.cells agree k a b) (ap (λ (r : Rounds). r.view) c.look_to.ensures.looked)).lower

pub returns-clause-passed : goal.returns-clause-passed
returns-clause-passed g c = (gone-to (view_of {slots = g.row.SLOTS} c.args.self.now) c.args.held.now c.requires.standing (at.Look c.args.id c.args.slot) c.args.id c.args.slot refl c.requires.at c.look_to.new.self.view c.first_strong-place.result c.first_strong-place.ensures.behind c.if-place-slot.false c.first_strong-place.ensures.within (λ k a b d h agree. c.first_strong-place.ensures.weak d.cells agree k a b) (ap (λ (r : Rounds). r.view) c.look_to.ensures.looked)).passed

pub returns-clause-event : goal.returns-clause-event
returns-clause-event g c =
    let within = c.first_strong-place.ensures.within in
    let other = c.if-place.false in
    let l : c.first_strong-place.result < g.row.SLOTS = omega (arith, within, other) in
    record { next = sym ((gone-to (view_of {slots = g.row.SLOTS} c.args.self.now) c.args.held.now c.requires.standing (at.Look c.args.id c.args.slot) c.args.id c.args.slot refl c.requires.at c.look_to.new.self.view c.first_strong-place.result c.first_strong-place.ensures.behind c.if-place-slot.false c.first_strong-place.ensures.within (λ k a b d h agree. c.first_strong-place.ensures.weak d.cells agree k a b) (ap (λ (r : Rounds). r.view) c.look_to.ensures.looked)).next l); event = λ d h agree. c.first_strong-place.ensures.strong l d.cells agree }
