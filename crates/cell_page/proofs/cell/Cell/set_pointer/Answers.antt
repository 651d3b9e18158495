use Rattle.std.proofs.Common.{List, ap, zero-add, arith}
use Rattle.cell_model.specs.Cells.{Pointer, Cell as StoredCell}
use Rattle.cell_page.proofs.PointerLemmas.{pointers_from-set}
use Rattle.cell_page.proofs.cell.Cell.set_pointer.Goals as goal

pub returns-clause-model : goal.returns-clause-model
returns-clause-model g c =
    let cell = c.args.self.now in
    let slot = c.args.slot in
    let pointers = pointers_from-set cell.bits c.with_bit-self.result 0 cell.slots slot c.args.target c.args.bit (omega arith)
    (rw (zero-add slot) c.with_bit-self.ensures.here)
    (λ k below other. rw (zero-add k) (c.with_bit-self.ensures.others k (omega arith) other)) in
    ap (λ (ps : List Pointer). let stored : StoredCell = record { live = cell.live; bit = cell.bit; strong = cell.strong; weak = cell.weak; payload = cell.payload; pointers = ps } in stored) pointers
