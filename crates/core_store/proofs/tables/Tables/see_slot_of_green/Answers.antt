use Rattle.std.proofs.Common.{rules, ◌≤◌, true, false, get_or, sym, ap, ◌∙◌, subst, arith, ⊎_elim}
use Rattle.std.specs.Prelude.{◌&&◌}
use Rattle.std.proofs.lemmas.List.{get_or_default}
use Rattle.cell_model.specs.Cells.{cell_at}
use Rattle.core_store.specs.declared.round_at.RoundAt.{RoundAt}
use Rattle.core_store.specs.declared.round_at.RoundAt.TheVariants as at
use Rattle.core_store.specs.Changes.{has_no_strong}
use Rattle.core_store.specs.Collecting.{objects_at}
use Rattle.core_store.specs.Slots.{HoldsPagesOf}
use Rattle.core_store.specs.RoundView.{Rounds}
use Rattle.core_store.specs.Views.{view_of}
use Rattle.core_store.proofs.CollectedLaws.{mark-of_live}
use Rattle.core_store.proofs.SlotStart.{old-of}
use Rattle.core_store.proofs.SeenLaws.{green-of, marked, waiting-live, work-at, out-testable, out-passed}
use Rattle.core_store.proofs.tables.Tables.see_slot_of_green.Goals as goal
use Rattle.core_store.proofs.tables.Tables.see_slot_of_green.Goals.{else-waits-via-then-waits+else-index, else-waits-via-else-waits}

pub cell-requires : goal.cell-requires
cell-requires g c =
    let r = c.requires.ready in
    let held = c.args.held.now in
    let small : g.row.SLOTS ≤ 14 = ⊎_elim (λ six. omega arith) (λ fourteen. omega arith) r.stands.counted in
    let pages = subst (λ (a : RoundAt). HoldsPagesOf held (objects_at r.core.cells a)) c.requires.at r.pages in
    let work = work-at r.stands (at.Out c.args.from c.args.slot) c.requires.at in
    (search rules, (search rules, ((work.above, work.small), (pages.0, (r.core.cells, r.agree)))))

pub index-requires : goal.index-requires
index-requires g c =
    let h = c.requires.ready.stands in
    let x = green-of c.args.self.now.round.view (at.Out c.args.from c.args.slot) tt c.requires.at in
    let to = get_or c.cell.result.now.slots c.args.slot 0 in
    let l = marked h to (waiting-live h x to (sym (c.waits.ensures x.walk x.swept x.slot x.of x.is) ∙ c.if-waits.true)) in
    search (rules, l)

pub begin_test-requires : goal.begin_test-requires
begin_test-requires g c =
    let x = green-of c.args.self.now.round.view (at.Out c.args.from c.args.slot) tt c.requires.at in
    (search rules, out-testable c.args.from c.args.slot x (get_or c.cell.result.now.slots c.args.slot 0) (sym (c.waits.ensures x.walk x.swept x.slot x.of x.is) ∙ c.if-waits.true))

pub invariant_of-self : goal.invariant_of-self
invariant_of-self g c =
    let t = c.args.self.now in
    let x = green-of t.round.view (at.Out c.args.from c.args.slot) tt c.requires.at in
    record { free_sized = t.free_sized; owes = t.owes; queue_sized = t.queue_sized; named_sized = t.named_sized; round_sized = ap (λ (r : Rounds). r.limit) (c.begin_test.ensures.begun x.walk x.swept x.slot x.of x.is) ∙ t.round_sized }

pub invariant_of-self-else-waits : goal.invariant_of-self-else-waits
invariant_of-self-else-waits g c =
    let t = c.args.self.now in
    let x = green-of t.round.view (at.Out c.args.from c.args.slot) tt c.requires.at in
    record { free_sized = t.free_sized; owes = t.owes; queue_sized = t.queue_sized; named_sized = t.named_sized; round_sized = ap (λ (r : Rounds). r.limit) (c.found.ensures.found x.walk x.swept x.slot x.of x.is) ∙ t.round_sized }

pub returns-then-index : goal.returns-then-index
returns-then-index g c = record {
  seen = λ core h agree.
      (let x = green-of c.args.self.now.round.view (at.Out c.args.from c.args.slot) tt c.requires.at in
      let to = get_or c.cell.result.now.slots c.args.slot 0 in
      let waiting = sym (c.waits.ensures x.walk x.swept x.slot x.of x.is) ∙ c.if-waits.true in
      let live = waiting-live h x to waiting in
      let zero = sym (mark-of_live g.row.SLOTS (view_of c.args.self.now) core h to live) ∙ (get_or_default c.args.self.now.zeros.items to false c.index.result.now (marked h to live) ∙ (sym c.index.ensures ∙ c.if-index.true)) in
      out-passed h c.args.from c.args.slot to x c.begin_test.new.self.view true c.requires.at (old-of c.cell.result.now core.cells c.args.from c.args.slot (c.cell.ensures.stored core.cells agree))
      (ap (λ b. b && has_no_strong (cell_at core.cells to)) waiting ∙ zero)
      (ap (λ (r : Rounds). r.view) (c.begin_test.ensures.begun x.walk x.swept x.slot x.of x.is)));
}

pub returns-else-waits : goal.returns-else-waits
returns-else-waits g c = record {
  seen = λ core h agree.
      (let x = green-of c.args.self.now.round.view (at.Out c.args.from c.args.slot) tt c.requires.at in
      let to = get_or c.cell.result.now.slots c.args.slot 0 in
      let mark = has_no_strong (cell_at core.cells to) in
      let of = c.waits.ensures x.walk x.swept x.slot x.of x.is in
      out-passed h c.args.from c.args.slot to x c.found.new.self.view false c.requires.at (old-of c.cell.result.now core.cells c.args.from c.args.slot (c.cell.ensures.stored core.cells agree))
      (elim c.else-waits.branch [
        | else-waits-via-then-waits+else-index w ↦
            let waiting = sym of ∙ w.if-waits.true in
            let live = waiting-live h x to waiting in
            let zero = sym (mark-of_live g.row.SLOTS (view_of c.args.self.now) core h to live) ∙ (get_or_default c.args.self.now.zeros.items to false w.index.result.now (marked h to live) ∙ (sym w.index.ensures ∙ w.if-index.false)) in
            ap (λ b. b && mark) waiting ∙ zero
        | else-waits-via-else-waits w ↦ ap (λ b. b && mark) (sym of ∙ w.if-waits.false)
      ])
      (ap (λ (r : Rounds). r.view) (c.found.ensures.found x.walk x.swept x.slot x.of x.is)));
}
