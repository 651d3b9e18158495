use Rattle.std.proofs.Common.{◌≡◌, ◌++◌, map, take, drop}
use Rattle.cell_model.specs.Cells.{switched}
use Rattle.cell_page.specs.Format.{IsCell}
use Rattle.cell_page.specs.Stored.{cell_of}
use Rattle.strength_counts.proofs.flip.switch_all_own.Given as goal

abbrev pub invariant-loop-slot : goal.invariant-loop-slot
invariant-loop-slot g l =
    let first = l.initial.cell in
    let pointers = (cell_of first).pointers in
    record {
      id : l.cell.id ≡ first.id;
      rules : IsCell first.id l.cell;
      model : cell_of l.cell ≡ record (cell_of first) { pointers = map (switched first.id) (take l.slot pointers) ++ drop l.slot pointers };
    }
