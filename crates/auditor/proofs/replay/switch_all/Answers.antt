use Rattle.std.proofs.Common.{◌≤◌, List, length, refl, ap, ◌∙◌, arith}
use Rattle.cell_model.specs.Cells.{Pointer, Cell, switched}
use Rattle.cell_page.specs.Stored.{cell_of}
use Rattle.cell_page.proofs.PointerLemmas.{length-pointers_from}
use Rattle.strength_counts.proofs.Slots.{switched_more, changed_all}
use Rattle.auditor.proofs.replay.switch_all.Goals as goal

pub loop-slot-preserved : goal.loop-slot-preserved
loop-slot-preserved g c = record {
  model = switched_more c.args.id c.args.id c.loop-slot.slot (cell_of c.args.cell.now) (cell_of c.loop-slot.cell) (cell_of c.switch_if.new.cell) refl c.loop-slot.invariant.model c.switch_if.ensures.model;
  count = c.switch_if.ensures.count ∙ c.loop-slot.invariant.count;
}

pub returns : goal.returns
returns g c =
    let first = cell_of c.args.cell.now in
    let count = c.requires.count in
    let all : length first.pointers ≤ c.loop-slot.slot = (let n = length-pointers_from c.args.cell.now.bits 0 c.args.cell.now.slots in omega (arith, n, count)) in
    c.loop-slot.invariant.model ∙ ap (λ (ps : List Pointer). let s : Cell = record first { pointers = ps } in s) (changed_all (switched c.args.id) first.pointers c.loop-slot.slot all)
