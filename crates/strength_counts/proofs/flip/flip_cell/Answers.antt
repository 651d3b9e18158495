use Rattle.std.proofs.Common.{◌≡◌, sym, ap, ◌∙◌, arith}
use Rattle.cell_model.specs.Cells.{Cell, self_pointers}
use Rattle.cell_page.specs.Stored.{cell_of}
use Rattle.strength_counts.proofs.Slots.{self_pointers-targets, flipped-switched}
use Rattle.strength_counts.proofs.flip.flip_cell.Goals as goal

pub overflow_sub-cell : goal.overflow_sub-cell
overflow_sub-cell g c =
    let cell = c.args.cell.now in
    let own : c.names-own.result ≡ self_pointers cell.id (cell_of cell) = c.names-own.ensures ∙ sym (self_pointers-targets cell.bits 0 cell.slots cell.id) in
    let weak = ap (λ (s : Cell). s.weak) c.switch_all_own.ensures.model in
    let most = c.requires.own in
    omega (arith, own, weak, most)

pub returns-clause-model : goal.returns-clause-model
returns-clause-model g c =
    let cell = c.args.cell.now in
    let own : c.names-own.result ≡ self_pointers cell.id (cell_of cell) = c.names-own.ensures ∙ sym (self_pointers-targets cell.bits 0 cell.slots cell.id) in
    flipped-switched cell.id c.names-own.result (cell_of cell) (cell_of c.switch_all_own.new.cell) c.switch_all_own.ensures.model own
