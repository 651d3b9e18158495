use Rattle.std.proofs.Common.{ℕ, ◌+◌, ◌<◌, ◌≤◌, List, length, sym, ap, ◌∙◌, arith}
use Rattle.std.specs.Prelude.{count_by}
use Rattle.std.proofs.lemmas.List.{take_all}
use Rattle.std.proofs.lemmas.Bool.{cond-true}
use Rattle.cell_model.specs.Cells.{Pointer, aims}
use Rattle.cell_page.specs.Stored.{cell_of}
use Rattle.cell_page.proofs.PointerLemmas.{length-pointers_from}
use Rattle.par_audit.specs.Tables.{count_at, place_of}
use Rattle.auditor.proofs.CountLaws.{slot-more, aims_in-few, slots-few}
use Rattle.par_audit.proofs.pairs.count_cell.Goals as goal

pub loop-slot-preserved : goal.loop-slot-preserved
loop-slot-preserved g c =
    let cell = c.args.cell.now in
    let size = length-pointers_from cell.bits 0 cell.slots in
    let count = c.know_slots.ensures in
    record {
      len = c.in_ok-count_slot.ensures.len ∙ c.loop-slot.invariant.len;
      each = λ id bit within.
          let there : place_of id bit < length c.loop-slot.bytes = (let l = c.loop-slot.invariant.len in omega (arith, l, within)) in
          let one = c.in_ok-count_slot.ensures.each id bit there in
          let was = c.loop-slot.invariant.each id bit within in
          let low : c.loop-slot.slot < length (cell_of cell).pointers = (let t = c.loop-slot-test.true in omega (arith, size, count, t)) in
          let more = slot-more id bit (cell_of cell) c.loop-slot.slot low in
          omega (arith, one, was, more);
    }

pub returns-after-loop-slot-clause-each : goal.returns-after-loop-slot-clause-each
returns-after-loop-slot-clause-each g c =
    let cell = c.args.cell.now in
    let size = length-pointers_from cell.bits 0 cell.slots in
    let count = c.know_slots.ensures in
    let past : length (cell_of cell).pointers ≤ c.loop-slot.slot = (let t = c.loop-slot-test.false in omega (arith, size, count, t)) in
    λ id bit within.
    c.loop-slot.invariant.each id bit within
    ∙ ap (λ (n : ℕ). count_at c.args.bytes.now c.args.carries.now.items (place_of id bit) + n)
    (ap (λ (ps : List Pointer). count_by (aims id bit) ps) (take_all c.loop-slot.slot (cell_of cell).pointers past)
    ∙ sym (cond-true cell.live (count_by (aims id bit) (cell_of cell).pointers) 0 c.if-cell.true))

pub returns-after-loop-slot-clause-few : goal.returns-after-loop-slot-clause-few
returns-after-loop-slot-clause-few g c =
    let count = c.know_slots.ensures in
    let most = slots-few g.row.SLOTS c.requires.size in
    λ id bit. aims_in-few id bit c.args.cell.now 14 (omega (arith, count, most))

pub returns-in_err-count_slot-clause-few : goal.returns-in_err-count_slot-clause-few
returns-in_err-count_slot-clause-few g c =
    let count = c.know_slots.ensures in
    let most = slots-few g.row.SLOTS c.requires.size in
    λ id bit. aims_in-few id bit c.args.cell.now 14 (omega (arith, count, most))
