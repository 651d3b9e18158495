use Rattle.std.proofs.Common.{◌≡◌, ◌++◌, ◌∷◌, ℕ, List, sym, ap, ◌∙◌}
use Rattle.std.specs.Prelude.{decimal}
use Rattle.plain_model.specs.Text.{numbers}
use Rattle.cell_page.specs.Format.{flag}
use Rattle.log_record.specs.declared.cell_record.CellRecord.{CellRecord}
use Rattle.log_printing.specs.Text.{fields_of}
use Rattle.log_printing.proofs.FieldLaws.{slot_text}
use Rattle.log_printing.proofs.record_lines.push_fields.Goals as goal

pub returns-in-Store-clause-text : goal.returns-in-Store-clause-text
returns-in-Store-clause-text c =
    let s = c.in-Store in
    slot_text c.args.line.now.bytes c.push_object-in-Store.new.line.bytes c.push_field.new.line.bytes c.push_side.new.line.bytes c.push_side-in-Store.new.line.bytes c.push_flag.new.line.bytes
    s.pass s.id s.slot s.old_target (flag s.old_strong) s.new_target (flag s.new_bit) (flag s.new_strong)
    c.push_object-in-Store.ensures.text
    (c.push_field.ensures.text ∙ ap (λ (n : ℕ). c.push_object-in-Store.new.line.bytes ++ 32 ∷ decimal n) c.from.ensures)
    (c.push_side.ensures.text ∙ ap (λ (n : ℕ). c.push_field.new.line.bytes ++ 32 ∷ decimal n ++ 32 ∷ decimal (flag s.old_strong)) c.from-in-Store.ensures)
    (c.push_side-in-Store.ensures.text ∙ ap (λ (n : ℕ). c.push_side.new.line.bytes ++ 32 ∷ decimal n ++ 32 ∷ decimal (flag s.new_bit)) c.from-in-Store-2.ensures)
    c.push_flag.ensures.text
    ∙ ap (λ (r : CellRecord). c.args.line.now.bytes ++ numbers (fields_of r)) (sym s.is)
