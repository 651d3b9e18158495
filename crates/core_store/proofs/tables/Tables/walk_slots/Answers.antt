use Rattle.std.proofs.Common.{rules, ◌≡◌, ◌≤◌, ◌<◌, ℕ, true, get_or, refl, sym, ap, ◌∙◌, subst, arith, ⊎_elim}
use Rattle.core_store.specs.declared.round_at.RoundAt.TheVariants as at
use Rattle.core_store.specs.SlotLooks.{is_white_in}
use Rattle.core_store.specs.RoundView.{RoundView, Rounds}
use Rattle.core_store.specs.Tables.{TablesView}
use Rattle.core_store.specs.Views.{view_of}
use Rattle.core_store.proofs.LookOnLaws.{first-within, gone-to, test-begun, white-behind, white-waits}
use Rattle.core_store.proofs.NullLaws.{null-there, slot-live, slot-pages}
use Rattle.core_store.proofs.PassLaws.{passed-none}
use Rattle.core_store.proofs.SeenLaws.{green-of, out-testable}
use Rattle.core_store.proofs.SlotStart.{old-of}
use Rattle.core_store.proofs.tables.Tables.walk_slots.Goals as goal

pub cell-requires : goal.cell-requires
cell-requires g c =
    let r = c.requires.standing in
    let small : g.row.SLOTS ≤ 14 = ⊎_elim (λ six. omega arith) (λ fourteen. omega arith) r.stands.counted in
    let a = at.Out c.args.from c.args.slot in
    let t = null-there r.stands a c.args.from c.args.slot c.requires.at refl in
    let live = slot-live r.stands a c.args.from c.args.slot c.requires.at refl in
    (search rules, (search rules, ((t.0, t.1), ((slot-pages r.stands c.args.held.now c.args.from c.args.slot live c.requires.all).0, (r.core.cells, r.agree)))))

pub first_to_test-place-requires : goal.first_to_test-place-requires
first_to_test-place-requires g c =
    let r = c.requires.standing in
    let within = first-within (view_of {slots = g.row.SLOTS} c.args.self.now) c.args.held.now r (at.Out c.args.from c.args.slot) c.args.from c.args.slot refl c.requires.at in
    let small : g.row.SLOTS ≤ 14 = ⊎_elim (λ six. omega arith) (λ fourteen. omega arith) r.stands.counted in
    (search rules, (search rules, ((r.core, r.stands), ((c.args.from, c.args.slot, c.requires.at), omega (arith, within)))))

pub begin_test-requires : goal.begin_test-requires
begin_test-requires g c =
    let r = c.requires.standing in
    let within = first-within (view_of {slots = g.row.SLOTS} c.args.self.now) c.args.held.now c.requires.standing (at.Out c.args.from c.args.slot) c.args.from c.args.slot refl c.requires.at in
    let same = c.if-place-first.true in
    let l : c.first_to_test-place.result < g.row.SLOTS = omega (arith, within, same) in
    let x = green-of c.args.self.now.round.view (at.Out c.args.from c.args.slot) tt c.requires.at in
    (search rules, out-testable c.args.from c.args.slot x (get_or c.cell.result.now.slots c.first_to_test-place.result 0) (white-waits r.core.cells c.args.from c.args.slot (get_or c.cell.result.now.slots c.first_to_test-place.result 0) x (c.first_to_test-place.ensures.white l r.core r.stands)))

pub invariant_of-self : goal.invariant_of-self
invariant_of-self g c =
    let t = c.args.self.now in
    let x = green-of t.round.view (at.Out c.args.from c.args.slot) tt c.requires.at in
    record { free_sized = t.free_sized; owes = t.owes; queue_sized = t.queue_sized; named_sized = t.named_sized; round_sized = ap (λ (r : Rounds). r.limit) (c.begin_test.ensures.begun x.walk x.swept x.slot x.of x.is) ∙ t.round_sized }

pub walk_to-requires : goal.walk_to-requires
walk_to-requires g c =
    let small : g.row.SLOTS ≤ 14 = ⊎_elim (λ six. omega arith) (λ fourteen. omega arith) c.requires.standing.stands.counted in
    (search rules, ((c.args.from, c.args.slot, c.requires.at), c.first_to_test-place.ensures.within))

pub begin_test-requires-then-place : goal.begin_test-requires-then-place
begin_test-requires-then-place g c =
    let d = c.requires.standing.core in
    let h = c.requires.standing.stands in
    let agree = c.requires.standing.agree in
    let gone = gone-to (view_of {slots = g.row.SLOTS} c.args.self.now) c.args.held.now c.requires.standing (at.Out c.args.from c.args.slot) c.args.from c.args.slot refl c.requires.at c.walk_to.new.self.view c.first_to_test-place.result c.first_to_test-place.ensures.behind c.if-place-first.false c.first_to_test-place.ensures.within (λ k a b d h agree. ap (is_white_in d.cells c.args.self.now.round.view) (old-of c.cell.result.now d.cells c.args.from k (c.cell.ensures.stored d.cells agree)) ∙ c.first_to_test-place.ensures.idle d h k a b) (ap (λ (r : Rounds). r.view) c.walk_to.ensures.walked) in
    let x = green-of c.walk_to.new.self.view (at.Out c.args.from c.first_to_test-place.result) tt (gone.next c.if-place.true) in
    (search rules, out-testable c.args.from c.first_to_test-place.result x (get_or c.cell.result.now.slots c.first_to_test-place.result 0) (white-waits d.cells c.args.from c.first_to_test-place.result (get_or c.cell.result.now.slots c.first_to_test-place.result 0) x (subst (λ (q : RoundView). is_white_in d.cells q (get_or c.cell.result.now.slots c.first_to_test-place.result 0) ≡ true) (sym (ap (λ (r : Rounds). r.view) c.walk_to.ensures.walked)) (white-behind g.row.SLOTS d.cells c.args.self.now.round.view c.args.from c.args.slot c.first_to_test-place.result (get_or c.cell.result.now.slots c.first_to_test-place.result 0) c.requires.at (c.first_to_test-place.ensures.white c.if-place.true d h)))))

pub invariant_of-self-then-place : goal.invariant_of-self-then-place
invariant_of-self-then-place g c =
    let t = c.args.self.now in
    let gone = gone-to (view_of {slots = g.row.SLOTS} c.args.self.now) c.args.held.now c.requires.standing (at.Out c.args.from c.args.slot) c.args.from c.args.slot refl c.requires.at c.walk_to.new.self.view c.first_to_test-place.result c.first_to_test-place.ensures.behind c.if-place-first.false c.first_to_test-place.ensures.within (λ k a b d h agree. ap (is_white_in d.cells c.args.self.now.round.view) (old-of c.cell.result.now d.cells c.args.from k (c.cell.ensures.stored d.cells agree)) ∙ c.first_to_test-place.ensures.idle d h k a b) (ap (λ (r : Rounds). r.view) c.walk_to.ensures.walked) in
    let x = green-of c.walk_to.new.self.view (at.Out c.args.from c.first_to_test-place.result) tt (gone.next c.if-place.true) in
    record { free_sized = t.free_sized; owes = t.owes; queue_sized = t.queue_sized; named_sized = t.named_sized; round_sized = ap (λ (r : Rounds). r.limit) (c.begin_test-then-place.ensures.begun x.walk x.swept x.slot x.of x.is) ∙ (ap (λ (r : Rounds). r.limit) c.walk_to.ensures.walked) ∙ t.round_sized }

pub invariant_of-self-else-place : goal.invariant_of-self-else-place
invariant_of-self-else-place g c =
    let t = c.args.self.now in
    record { free_sized = t.free_sized; owes = t.owes; queue_sized = t.queue_sized; named_sized = t.named_sized; round_sized = ap (λ (r : Rounds). r.limit) c.walk_to.ensures.walked ∙ t.round_sized }

pub returns-then-place-first-clause-passed : goal.returns-then-place-first-clause-passed
returns-then-place-first-clause-passed g c =
    let within = first-within (view_of {slots = g.row.SLOTS} c.args.self.now) c.args.held.now c.requires.standing (at.Out c.args.from c.args.slot) c.args.from c.args.slot refl c.requires.at in
    let same = c.if-place-first.true in
    let l : c.first_to_test-place.result < g.row.SLOTS = omega (arith, within, same) in
    (test-begun (view_of {slots = g.row.SLOTS} c.args.self.now) (view_of {slots = g.row.SLOTS} c.args.self.now) (let y : TablesView = record (view_of {slots = g.row.SLOTS} c.args.self.now) { round = c.begin_test.new.self.view } in y) c.args.held.now c.requires.standing (passed-none g.row.SLOTS (view_of {slots = g.row.SLOTS} c.args.self.now) c.args.held.now) refl c.args.from c.args.slot (get_or c.cell.result.now.slots c.first_to_test-place.result 0) c.requires.at
    (λ cells agree. old-of c.cell.result.now cells c.args.from c.args.slot (c.cell.ensures.stored cells agree) ∙ ap (λ (n : ℕ). get_or c.cell.result.now.slots n 0) (sym same)) (λ d h agree. c.first_to_test-place.ensures.white l d h) (λ x. ap (λ (r : Rounds). r.view) (c.begin_test.ensures.begun x.walk x.swept x.slot x.of x.is))).passed

pub returns-then-place-first-clause-lower : goal.returns-then-place-first-clause-lower
returns-then-place-first-clause-lower g c =
    let within = first-within (view_of {slots = g.row.SLOTS} c.args.self.now) c.args.held.now c.requires.standing (at.Out c.args.from c.args.slot) c.args.from c.args.slot refl c.requires.at in
    let same = c.if-place-first.true in
    let l : c.first_to_test-place.result < g.row.SLOTS = omega (arith, within, same) in
    (test-begun (view_of {slots = g.row.SLOTS} c.args.self.now) (view_of {slots = g.row.SLOTS} c.args.self.now) (let y : TablesView = record (view_of {slots = g.row.SLOTS} c.args.self.now) { round = c.begin_test.new.self.view } in y) c.args.held.now c.requires.standing (passed-none g.row.SLOTS (view_of {slots = g.row.SLOTS} c.args.self.now) c.args.held.now) refl c.args.from c.args.slot (get_or c.cell.result.now.slots c.first_to_test-place.result 0) c.requires.at
    (λ cells agree. old-of c.cell.result.now cells c.args.from c.args.slot (c.cell.ensures.stored cells agree) ∙ ap (λ (n : ℕ). get_or c.cell.result.now.slots n 0) (sym same)) (λ d h agree. c.first_to_test-place.ensures.white l d h) (λ x. ap (λ (r : Rounds). r.view) (c.begin_test.ensures.begun x.walk x.swept x.slot x.of x.is))).lower

pub returns-then-place-clause-passed : goal.returns-then-place-clause-passed
returns-then-place-clause-passed g c =
    let gone = gone-to (view_of {slots = g.row.SLOTS} c.args.self.now) c.args.held.now c.requires.standing (at.Out c.args.from c.args.slot) c.args.from c.args.slot refl c.requires.at c.walk_to.new.self.view c.first_to_test-place.result c.first_to_test-place.ensures.behind c.if-place-first.false c.first_to_test-place.ensures.within (λ k a b d h agree. ap (is_white_in d.cells c.args.self.now.round.view) (old-of c.cell.result.now d.cells c.args.from k (c.cell.ensures.stored d.cells agree)) ∙ c.first_to_test-place.ensures.idle d h k a b) (ap (λ (r : Rounds). r.view) c.walk_to.ensures.walked) in
    (test-begun (view_of {slots = g.row.SLOTS} c.args.self.now) (let y : TablesView = record (view_of {slots = g.row.SLOTS} c.args.self.now) { round = c.walk_to.new.self.view } in y) (let y : TablesView = record (view_of {slots = g.row.SLOTS} c.args.self.now) { round = c.begin_test-then-place.new.self.view } in y) c.args.held.now c.requires.standing gone.passed refl c.args.from c.first_to_test-place.result (get_or c.cell.result.now.slots c.first_to_test-place.result 0) (gone.next c.if-place.true)
    (λ cells agree. old-of c.cell.result.now cells c.args.from c.first_to_test-place.result (c.cell.ensures.stored cells agree)) (λ d h agree. subst (λ (q : RoundView). is_white_in d.cells q (get_or c.cell.result.now.slots c.first_to_test-place.result 0) ≡ true) (sym (ap (λ (r : Rounds). r.view) c.walk_to.ensures.walked)) (white-behind g.row.SLOTS d.cells c.args.self.now.round.view c.args.from c.args.slot c.first_to_test-place.result (get_or c.cell.result.now.slots c.first_to_test-place.result 0) c.requires.at (c.first_to_test-place.ensures.white c.if-place.true d h))) (λ x. ap (λ (r : Rounds). r.view) (c.begin_test-then-place.ensures.begun x.walk x.swept x.slot x.of x.is))).passed

pub returns-then-place-clause-lower : goal.returns-then-place-clause-lower
returns-then-place-clause-lower g c =
    let gone = gone-to (view_of {slots = g.row.SLOTS} c.args.self.now) c.args.held.now c.requires.standing (at.Out c.args.from c.args.slot) c.args.from c.args.slot refl c.requires.at c.walk_to.new.self.view c.first_to_test-place.result c.first_to_test-place.ensures.behind c.if-place-first.false c.first_to_test-place.ensures.within (λ k a b d h agree. ap (is_white_in d.cells c.args.self.now.round.view) (old-of c.cell.result.now d.cells c.args.from k (c.cell.ensures.stored d.cells agree)) ∙ c.first_to_test-place.ensures.idle d h k a b) (ap (λ (r : Rounds). r.view) c.walk_to.ensures.walked) in
    let before = gone.lower in
    let behind = (test-begun (view_of {slots = g.row.SLOTS} c.args.self.now) (let y : TablesView = record (view_of {slots = g.row.SLOTS} c.args.self.now) { round = c.walk_to.new.self.view } in y) (let y : TablesView = record (view_of {slots = g.row.SLOTS} c.args.self.now) { round = c.begin_test-then-place.new.self.view } in y) c.args.held.now c.requires.standing gone.passed refl c.args.from c.first_to_test-place.result (get_or c.cell.result.now.slots c.first_to_test-place.result 0) (gone.next c.if-place.true)
    (λ cells agree. old-of c.cell.result.now cells c.args.from c.first_to_test-place.result (c.cell.ensures.stored cells agree)) (λ d h agree. subst (λ (q : RoundView). is_white_in d.cells q (get_or c.cell.result.now.slots c.first_to_test-place.result 0) ≡ true) (sym (ap (λ (r : Rounds). r.view) c.walk_to.ensures.walked)) (white-behind g.row.SLOTS d.cells c.args.self.now.round.view c.args.from c.args.slot c.first_to_test-place.result (get_or c.cell.result.now.slots c.first_to_test-place.result 0) c.requires.at (c.first_to_test-place.ensures.white c.if-place.true d h))) (λ x. ap (λ (r : Rounds). r.view) (c.begin_test-then-place.ensures.begun x.walk x.swept x.slot x.of x.is))).lower in
    omega (arith, before, behind)

pub returns-else-place-clause-passed : goal.returns-else-place-clause-passed
returns-else-place-clause-passed g c = (gone-to (view_of {slots = g.row.SLOTS} c.args.self.now) c.args.held.now c.requires.standing (at.Out c.args.from c.args.slot) c.args.from c.args.slot refl c.requires.at c.walk_to.new.self.view c.first_to_test-place.result c.first_to_test-place.ensures.behind c.if-place-first.false c.first_to_test-place.ensures.within (λ k a b d h agree. ap (is_white_in d.cells c.args.self.now.round.view) (old-of c.cell.result.now d.cells c.args.from k (c.cell.ensures.stored d.cells agree)) ∙ c.first_to_test-place.ensures.idle d h k a b) (ap (λ (r : Rounds). r.view) c.walk_to.ensures.walked)).passed

pub returns-else-place-clause-lower : goal.returns-else-place-clause-lower
returns-else-place-clause-lower g c = (gone-to (view_of {slots = g.row.SLOTS} c.args.self.now) c.args.held.now c.requires.standing (at.Out c.args.from c.args.slot) c.args.from c.args.slot refl c.requires.at c.walk_to.new.self.view c.first_to_test-place.result c.first_to_test-place.ensures.behind c.if-place-first.false c.first_to_test-place.ensures.within (λ k a b d h agree. ap (is_white_in d.cells c.args.self.now.round.view) (old-of c.cell.result.now d.cells c.args.from k (c.cell.ensures.stored d.cells agree)) ∙ c.first_to_test-place.ensures.idle d h k a b) (ap (λ (r : Rounds). r.view) c.walk_to.ensures.walked)).lower
