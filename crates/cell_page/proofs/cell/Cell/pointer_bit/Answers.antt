use Rattle.std.proofs.Common.{ℕ, sym, ap, ◌∙◌, zero-add, arith}
use Rattle.std.specs.Prelude.{◌==◌}
use Rattle.std.specs.Int.{bit_at}
use Rattle.std.proofs.lemmas.Nat.Bits.{shr_and_one}
use Rattle.cell_model.specs.Cells.{Pointer, null}
use Rattle.cell_page.proofs.PointerLemmas.{get_or-pointers_from}
use Rattle.cell_page.proofs.cell.Cell.pointer_bit.Goals as goal

pub returns-clause-model : goal.returns-clause-model
returns-clause-model g c =
    let bits = c.args.self.now.bits in
    let slot = c.args.slot in
    let pointer = get_or-pointers_from bits 0 c.args.self.now.slots slot null (omega arith) in
    ap (λ (n : ℕ). n == 1) (shr_and_one bits slot)
    ∙ ap (λ (n : ℕ). bit_at bits n == 1) (sym (zero-add slot))
    ∙ sym (ap (λ (p : Pointer). p.bit) pointer)
