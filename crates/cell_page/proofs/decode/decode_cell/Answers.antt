use Rattle.std.proofs.Common.{◌≡◌, ℕ, ◌≤◌, List, length, take, Some, None, drop, Bool, true, false, not, refl, sym, ap, ◌∙◌, ◌-◌}
use Rattle.std.specs.Prelude.{slice_index, ◌==◌}
use Rattle.std.specs.List.{list_any}
use Rattle.std.proofs.lemmas.List.{take_rest}
use Rattle.cell_page.specs.declared.cell.Cell.{Cell}
use Rattle.cell_page.specs.Fields.{later_fields, first_broken, broken_in_cell, cell_in}
use Rattle.cell_page.specs.Format.{fields_size}
use Rattle.cell_page.proofs.Broken.{later_breaks, rest_decides}
use Rattle.cell_page.proofs.decode.decode_cell.Goals as goal

-- what the bytes after the slots are, as the code tests them
abbrev rest_is : (slots : ℕ) (bytes : List ℕ) → Bool
rest_is slots bytes = list_any (λ byte. not (byte == 0)) (take (length bytes - fields_size slots) (drop (fields_size slots) bytes))

rest_breaks : (slots id : ℕ) (bytes : List ℕ) → slice_index bytes 0 ≤ 1 → slice_index bytes 1 ≤ slice_index bytes 0
    → first_broken (later_fields id (cell_in slots bytes)) ≡ None → rest_is slots bytes ≡ true → broken_in_cell slots id bytes ≡ Some (fields_size slots)
rest_breaks slots id bytes state bit later rest =
    rest_decides slots id bytes state bit later ∙ rw (← take_rest bytes (fields_size slots), rest) refl

rest_obeys : (slots id : ℕ) (bytes : List ℕ) → slice_index bytes 0 ≤ 1 → slice_index bytes 1 ≤ slice_index bytes 0
    → first_broken (later_fields id (cell_in slots bytes)) ≡ None → rest_is slots bytes ≡ false → broken_in_cell slots id bytes ≡ None
rest_obeys slots id bytes state bit later rest =
    rest_decides slots id bytes state bit later ∙ rw (← take_rest bytes (fields_size slots), rest) refl

pub returns-in-Some-clause-breaks : goal.returns-in-Some-clause-breaks
returns-in-Some-clause-breaks g c =
    let later = sym (ap (λ (cell : Cell g.row.SLOTS). first_broken (later_fields c.args.id cell)) c.read_fields-cell.ensures) ∙ sym c.broken_field.ensures.first ∙ c.in-Some.is in
    later_breaks g.row.SLOTS c.args.id c.in-Some.at c.args.bytes.now c.if-state-gt1.false c.if-bytes-state.false later

pub returns-then-has_nonzero-clause-breaks : goal.returns-then-has_nonzero-clause-breaks
returns-then-has_nonzero-clause-breaks g c =
    let later = sym (ap (λ (cell : Cell g.row.SLOTS). first_broken (later_fields c.args.id cell)) c.read_fields-cell.ensures) ∙ sym c.broken_field.ensures.first ∙ c.in_default.is in
    rest_breaks g.row.SLOTS c.args.id c.args.bytes.now c.if-state-gt1.false c.if-bytes-state.false later (sym c.has_nonzero.ensures ∙ c.if-has_nonzero.true)

pub returns-clause-obeys : goal.returns-clause-obeys
returns-clause-obeys g c =
    let later = sym (ap (λ (cell : Cell g.row.SLOTS). first_broken (later_fields c.args.id cell)) c.read_fields-cell.ensures) ∙ sym c.broken_field.ensures.first ∙ c.in_default.is in
    rest_obeys g.row.SLOTS c.args.id c.args.bytes.now c.if-state-gt1.false c.if-bytes-state.false later (sym c.has_nonzero.ensures ∙ c.if-has_nonzero.false)
