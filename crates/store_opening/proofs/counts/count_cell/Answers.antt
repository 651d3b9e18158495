use Rattle.std.proofs.Common.{ℕ, ◌+◌, ◌<◌, ◌≤◌, List, length, sym, ap, ◌∙◌, arith}
use Rattle.std.specs.Prelude.{slice_index, count_by}
use Rattle.std.proofs.lemmas.List.{take_all}
use Rattle.std.proofs.lemmas.Bool.{cond-true}
use Rattle.cell_model.specs.Cells.{Pointer, aims}
use Rattle.cell_page.specs.Stored.{cell_of}
use Rattle.cell_page.proofs.PointerLemmas.{length-pointers_from}
use Rattle.store_opening.proofs.CountLaws.{slot-more, aims_in-few, slots-few}
use Rattle.store_opening.proofs.counts.count_cell.Goals as goal

pub loop-slot-preserved : goal.loop-slot-preserved
loop-slot-preserved g c =
    let cell = c.args.cell.now in
    let size = length-pointers_from cell.bits 0 cell.slots in
    let count = c.requires.slotted in
    record {
      len = c.count_slot.ensures.len ∙ c.loop-slot.invariant.len;
      each = λ id within.
          let there : id < length c.loop-slot.counts = (let l = c.loop-slot.invariant.len in omega (arith, l, within)) in
          let one = c.count_slot.ensures.each id there in
          let was = c.loop-slot.invariant.each id within in
          let low : c.loop-slot.slot < length (cell_of cell).pointers = (let t = c.loop-slot-test.true in omega (arith, size, count, t)) in
          let more = slot-more id c.args.bit (cell_of cell) c.loop-slot.slot low in
          omega (arith, one, was, more);
    }

pub returns-after-loop-slot-clause-each : goal.returns-after-loop-slot-clause-each
returns-after-loop-slot-clause-each g c =
    let cell = c.args.cell.now in
    let size = length-pointers_from cell.bits 0 cell.slots in
    let count = c.requires.slotted in
    let past : length (cell_of cell).pointers ≤ c.loop-slot.slot = (let t = c.loop-slot-test.false in omega (arith, size, count, t)) in
    λ id within.
    c.loop-slot.invariant.each id within
    ∙ ap (λ (n : ℕ). slice_index c.args.counts.now id + n)
    (ap (λ (ps : List Pointer). count_by (aims id c.args.bit) ps) (take_all c.loop-slot.slot (cell_of cell).pointers past)
    ∙ sym (cond-true cell.live (count_by (aims id c.args.bit) (cell_of cell).pointers) 0 c.if-cell.true))

pub returns-after-loop-slot-clause-few : goal.returns-after-loop-slot-clause-few
returns-after-loop-slot-clause-few g c =
    let count = c.requires.slotted in
    let most = slots-few g.row.SLOTS c.requires.size in
    λ id. aims_in-few id c.args.bit c.args.cell.now 14 (omega (arith, count, most))
