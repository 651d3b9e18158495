use Rattle.std.proofs.Common.{◌≤◌, ℕ, List, length, ap, subst, ◌∙◌, arith}
use Rattle.cell_model.specs.Cells.{Pointer, Cell, switched}
use Rattle.cell_page.specs.Format.{IsCell}
use Rattle.cell_page.specs.Stored.{cell_of}
use Rattle.cell_page.proofs.PointerLemmas.{length-pointers_from}
use Rattle.strength_counts.proofs.Slots.{switched_more, changed_all}
use Rattle.strength_counts.proofs.flip.switch_all_own.Goals as goal

pub loop-slot-preserved : goal.loop-slot-preserved
loop-slot-preserved g c =
    let first = c.args.cell.now in
    let before = c.loop-slot.invariant in
    let switched_one = c.switch_own.ensures in
    record {
      id = switched_one.id ∙ before.id;
      rules = subst (λ (n : ℕ). IsCell n c.switch_own.new.cell) before.id switched_one.rules;
      model = switched_more first.id c.loop-slot.cell.id c.loop-slot.slot (cell_of first) (cell_of c.loop-slot.cell) (cell_of c.switch_own.new.cell) before.id before.model switched_one.model;
    }

pub returns-clause-model : goal.returns-clause-model
returns-clause-model g c =
    let first = cell_of c.args.cell.now in
    let count = c.requires.count in
    let all : length first.pointers ≤ c.loop-slot.slot = (let n = length-pointers_from c.args.cell.now.bits 0 c.args.cell.now.slots in omega (arith, n, count)) in
    c.loop-slot.invariant.model ∙ ap (λ (ps : List Pointer). let s : Cell = record first { pointers = ps } in s) (changed_all (switched c.args.cell.now.id) first.pointers c.loop-slot.slot all)
