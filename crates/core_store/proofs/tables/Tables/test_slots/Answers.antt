use Rattle.std.proofs.Common.{rules, ◌≡◌, ◌≤◌, ◌<◌, ℕ, true, refl, ap, ◌∙◌, subst, arith, ⊎_elim}
use Rattle.cell_model.specs.Cells.{pointer_at}
use Rattle.core_store.specs.declared.round_at.RoundAt.TheVariants as at
use Rattle.core_store.specs.Changes.{is_counted_strong}
use Rattle.core_store.specs.RoundView.{Rounds}
use Rattle.core_store.specs.Tables.{TablesView}
use Rattle.core_store.specs.Views.{view_of}
use Rattle.core_store.proofs.LookOnLaws.{first-within, gone-to, test-ended}
use Rattle.core_store.proofs.NullLaws.{null-there, slot-live, slot-pages}
use Rattle.core_store.proofs.PassLaws.{passed-none}
use Rattle.core_store.proofs.PlanWork.{small-targets}
use Rattle.core_store.proofs.SeenLaws.{green-of, test-nothing}
use Rattle.core_store.proofs.tables.Tables.test_slots.Goals as goal

pub first_strong-place-requires : goal.first_strong-place-requires
first_strong-place-requires g c =
    let r = c.requires.standing in
    let small : g.row.SLOTS ≤ 14 = ⊎_elim (λ six. omega arith) (λ fourteen. omega arith) r.stands.counted in
    let a = at.Test c.args.id c.args.slot in
    let t = null-there r.stands a c.args.id c.args.slot c.requires.at refl in
    let live = slot-live r.stands a c.args.id c.args.slot c.requires.at refl in
    let within = t.2 in
    (search rules, (r.stands.counted, (record { above = t.0; small = t.1; change = tt }, (omega (arith, within), (r.core.cells, r.agree, small-targets r.stands, λ k l. slot-pages r.stands c.args.held.now c.args.id k live c.requires.all)))))

pub found-requires : goal.found-requires
found-requires g c =
    let x = green-of c.args.self.now.round.view (at.Test c.args.id c.args.slot) tt c.requires.at in
    (search rules, test-nothing c.requires.standing.stands c.args.id c.args.slot x)

pub invariant_of-self : goal.invariant_of-self
invariant_of-self g c =
    let t = c.args.self.now in
    let x = green-of t.round.view (at.Test c.args.id c.args.slot) tt c.requires.at in
    record { free_sized = t.free_sized; owes = t.owes; queue_sized = t.queue_sized; named_sized = t.named_sized; round_sized = ap (λ (r : Rounds). r.limit) (c.found.ensures.found x.walk x.swept x.slot x.of x.is) ∙ t.round_sized }

pub test_to-requires : goal.test_to-requires
test_to-requires g c =
    let small : g.row.SLOTS ≤ 14 = ⊎_elim (λ six. omega arith) (λ fourteen. omega arith) c.requires.standing.stands.counted in
    (search rules, ((c.args.id, c.args.slot, c.requires.at), c.first_strong-place.ensures.within))

pub found-requires-then-place : goal.found-requires-then-place
found-requires-then-place g c =
    let r = c.requires.standing in
    let gone = gone-to (view_of {slots = g.row.SLOTS} c.args.self.now) c.args.held.now c.requires.standing (at.Test c.args.id c.args.slot) c.args.id c.args.slot refl c.requires.at c.test_to.new.self.view c.first_strong-place.result c.first_strong-place.ensures.behind c.if-place-slot.false c.first_strong-place.ensures.within (λ k a b d h agree. c.first_strong-place.ensures.weak d.cells agree k a b) (ap (λ (r : Rounds). r.view) c.test_to.ensures.tested) in
    let x = green-of c.test_to.new.self.view (at.Test c.args.id c.first_strong-place.result) tt (gone.next c.if-place.true) in
    (search rules, test-nothing (gone.passed.stands r.core r.stands r.agree) c.args.id c.first_strong-place.result x)

pub invariant_of-self-then-place : goal.invariant_of-self-then-place
invariant_of-self-then-place g c =
    let t = c.args.self.now in
    let gone = gone-to (view_of {slots = g.row.SLOTS} c.args.self.now) c.args.held.now c.requires.standing (at.Test c.args.id c.args.slot) c.args.id c.args.slot refl c.requires.at c.test_to.new.self.view c.first_strong-place.result c.first_strong-place.ensures.behind c.if-place-slot.false c.first_strong-place.ensures.within (λ k a b d h agree. c.first_strong-place.ensures.weak d.cells agree k a b) (ap (λ (r : Rounds). r.view) c.test_to.ensures.tested) in
    let x = green-of c.test_to.new.self.view (at.Test c.args.id c.first_strong-place.result) tt (gone.next c.if-place.true) in
    record { free_sized = t.free_sized; owes = t.owes; queue_sized = t.queue_sized; named_sized = t.named_sized; round_sized = ap (λ (r : Rounds). r.limit) (c.found-then-place.ensures.found x.walk x.swept x.slot x.of x.is) ∙ (ap (λ (r : Rounds). r.limit) c.test_to.ensures.tested) ∙ t.round_sized }

pub invariant_of-self-else-place : goal.invariant_of-self-else-place
invariant_of-self-else-place g c =
    let t = c.args.self.now in
    record { free_sized = t.free_sized; owes = t.owes; queue_sized = t.queue_sized; named_sized = t.named_sized; round_sized = ap (λ (r : Rounds). r.limit) c.test_to.ensures.tested ∙ t.round_sized }

pub returns-then-place-slot-clause-passed : goal.returns-then-place-slot-clause-passed
returns-then-place-slot-clause-passed g c =
    let within = first-within (view_of {slots = g.row.SLOTS} c.args.self.now) c.args.held.now c.requires.standing (at.Test c.args.id c.args.slot) c.args.id c.args.slot refl c.requires.at in
    let same = c.if-place-slot.true in
    let l : c.first_strong-place.result < g.row.SLOTS = omega (arith, within, same) in
    (test-ended (view_of {slots = g.row.SLOTS} c.args.self.now) (view_of {slots = g.row.SLOTS} c.args.self.now) (let y : TablesView = record (view_of {slots = g.row.SLOTS} c.args.self.now) { round = c.found.new.self.view } in y) c.args.held.now c.requires.standing (passed-none g.row.SLOTS (view_of {slots = g.row.SLOTS} c.args.self.now) c.args.held.now) refl c.args.id c.args.slot c.requires.at
    (λ cells agree. subst (λ (n : ℕ). is_counted_strong cells (pointer_at cells c.args.id n) ≡ true) c.if-place-slot.true (c.first_strong-place.ensures.strong l cells agree)) (λ x. ap (λ (r : Rounds). r.view) (c.found.ensures.found x.walk x.swept x.slot x.of x.is))).passed

pub returns-then-place-slot-clause-lower : goal.returns-then-place-slot-clause-lower
returns-then-place-slot-clause-lower g c =
    let within = first-within (view_of {slots = g.row.SLOTS} c.args.self.now) c.args.held.now c.requires.standing (at.Test c.args.id c.args.slot) c.args.id c.args.slot refl c.requires.at in
    let same = c.if-place-slot.true in
    let l : c.first_strong-place.result < g.row.SLOTS = omega (arith, within, same) in
    (test-ended (view_of {slots = g.row.SLOTS} c.args.self.now) (view_of {slots = g.row.SLOTS} c.args.self.now) (let y : TablesView = record (view_of {slots = g.row.SLOTS} c.args.self.now) { round = c.found.new.self.view } in y) c.args.held.now c.requires.standing (passed-none g.row.SLOTS (view_of {slots = g.row.SLOTS} c.args.self.now) c.args.held.now) refl c.args.id c.args.slot c.requires.at
    (λ cells agree. subst (λ (n : ℕ). is_counted_strong cells (pointer_at cells c.args.id n) ≡ true) c.if-place-slot.true (c.first_strong-place.ensures.strong l cells agree)) (λ x. ap (λ (r : Rounds). r.view) (c.found.ensures.found x.walk x.swept x.slot x.of x.is))).lower

pub returns-then-place-clause-passed : goal.returns-then-place-clause-passed
returns-then-place-clause-passed g c =
    let gone = gone-to (view_of {slots = g.row.SLOTS} c.args.self.now) c.args.held.now c.requires.standing (at.Test c.args.id c.args.slot) c.args.id c.args.slot refl c.requires.at c.test_to.new.self.view c.first_strong-place.result c.first_strong-place.ensures.behind c.if-place-slot.false c.first_strong-place.ensures.within (λ k a b d h agree. c.first_strong-place.ensures.weak d.cells agree k a b) (ap (λ (r : Rounds). r.view) c.test_to.ensures.tested) in
    (test-ended (view_of {slots = g.row.SLOTS} c.args.self.now) (let y : TablesView = record (view_of {slots = g.row.SLOTS} c.args.self.now) { round = c.test_to.new.self.view } in y) (let y : TablesView = record (view_of {slots = g.row.SLOTS} c.args.self.now) { round = c.found-then-place.new.self.view } in y) c.args.held.now c.requires.standing gone.passed refl c.args.id c.first_strong-place.result (gone.next c.if-place.true)
    (λ cells agree. c.first_strong-place.ensures.strong c.if-place.true cells agree) (λ x. ap (λ (r : Rounds). r.view) (c.found-then-place.ensures.found x.walk x.swept x.slot x.of x.is))).passed

pub returns-then-place-clause-lower : goal.returns-then-place-clause-lower
returns-then-place-clause-lower g c =
    let gone = gone-to (view_of {slots = g.row.SLOTS} c.args.self.now) c.args.held.now c.requires.standing (at.Test c.args.id c.args.slot) c.args.id c.args.slot refl c.requires.at c.test_to.new.self.view c.first_strong-place.result c.first_strong-place.ensures.behind c.if-place-slot.false c.first_strong-place.ensures.within (λ k a b d h agree. c.first_strong-place.ensures.weak d.cells agree k a b) (ap (λ (r : Rounds). r.view) c.test_to.ensures.tested) in
    let before = gone.lower in
    let behind = (test-ended (view_of {slots = g.row.SLOTS} c.args.self.now) (let y : TablesView = record (view_of {slots = g.row.SLOTS} c.args.self.now) { round = c.test_to.new.self.view } in y) (let y : TablesView = record (view_of {slots = g.row.SLOTS} c.args.self.now) { round = c.found-then-place.new.self.view } in y) c.args.held.now c.requires.standing gone.passed refl c.args.id c.first_strong-place.result (gone.next c.if-place.true)
    (λ cells agree. c.first_strong-place.ensures.strong c.if-place.true cells agree) (λ x. ap (λ (r : Rounds). r.view) (c.found-then-place.ensures.found x.walk x.swept x.slot x.of x.is))).lower in
    omega (arith, before, behind)

pub returns-else-place-clause-passed : goal.returns-else-place-clause-passed
returns-else-place-clause-passed g c = (gone-to (view_of {slots = g.row.SLOTS} c.args.self.now) c.args.held.now c.requires.standing (at.Test c.args.id c.args.slot) c.args.id c.args.slot refl c.requires.at c.test_to.new.self.view c.first_strong-place.result c.first_strong-place.ensures.behind c.if-place-slot.false c.first_strong-place.ensures.within (λ k a b d h agree. c.first_strong-place.ensures.weak d.cells agree k a b) (ap (λ (r : Rounds). r.view) c.test_to.ensures.tested)).passed

pub returns-else-place-clause-lower : goal.returns-else-place-clause-lower
returns-else-place-clause-lower g c = (gone-to (view_of {slots = g.row.SLOTS} c.args.self.now) c.args.held.now c.requires.standing (at.Test c.args.id c.args.slot) c.args.id c.args.slot refl c.requires.at c.test_to.new.self.view c.first_strong-place.result c.first_strong-place.ensures.behind c.if-place-slot.false c.first_strong-place.ensures.within (λ k a b d h agree. c.first_strong-place.ensures.weak d.cells agree k a b) (ap (λ (r : Rounds). r.view) c.test_to.ensures.tested)).lower
