use Rattle.std.proofs.Common.{rules, ◌≡◌, ◌≤◌, length, refl, sym, ◌∙◌, arith}
use Rattle.std.proofs.lemmas.Bool.{eqb-true, iff_false}
use Rattle.log_record.specs.declared.record.Record.TheVariants.{OfCells}
use Rattle.log_record.proofs.ReadLaws.{some_bytes, of_fields, none_of_fields, same_fields, begins_of_fields}
use Rattle.log_record.proofs.cell_record.CellRecord.read.Goals as goal

pub returns-then-is_empty-clause-bad : goal.returns-then-is_empty-clause-bad
returns-then-is_empty-clause-bad g c = λ r len begins.
    let bytes = c.args.bytes.now in
    let none : length bytes ≡ 0 = eqb-true (length bytes) 0 (sym c.is_empty.ensures ∙ c.if-is_empty.true) in
    let some = some_bytes bytes (OfCells r) len begins in
    absurd (omega (arith, none, some))

pub returns-then-not-has_spelling-clause-bad : goal.returns-then-not-has_spelling-clause-bad
returns-then-not-has_spelling-clause-bad g c = λ r len begins.
    let bytes = c.args.bytes.now in
    let found = sym c.read_fields.ensures ∙ c.in-Some.is in
    iff_false c.has_spelling.ensures c.if-not-has_spelling.true (same_fields bytes _ len c.in-Some.len c.in-Some.rec found (of_fields bytes r len begins))

pub returns-else-not-has_spelling-clause-ok : goal.returns-else-not-has_spelling-clause-ok
returns-else-not-has_spelling-clause-ok g c =
    let some : 1 ≤ length c.args.bytes.now = search rules in
    begins_of_fields c.args.bytes.now _ c.in-Some.len c.in-Some.rec (λ i. omega (arith, c.type_inv.bytes i)) some refl
    (sym c.read_fields.ensures ∙ c.in-Some.is) (c.has_spelling.ensures.0 c.if-not-has_spelling.false)

pub returns-in-None-clause-bad : goal.returns-in-None-clause-bad
returns-in-None-clause-bad g c = λ r len begins. none_of_fields c.args.bytes.now _ len (sym c.read_fields.ensures ∙ c.in-None.is) (of_fields c.args.bytes.now r len begins)
