use Rattle.std.proofs.Common.{◌≡◌, subst, sym, ◌∙◌, refl}
use Rattle.log_record.specs.declared.record.Record.TheVariants.{Turn}
use Rattle.log_record.specs.Spelling.{known_version, BeginsWith}
use Rattle.log_printing.specs.Testing.{other, IsDamagedFirst}
use Rattle.log_printing.proofs.TestLaws.{turn_alone, turn_more, other_first, other_count}
use Rattle.log_printing.proofs.testing.test_first.Goals as goal

pub returns-then-len-body-clause-damaged : goal.returns-then-len-body-clause-damaged
returns-then-len-body-clause-damaged g c =
    subst (λ pages. IsDamagedFirst g.row.SLOTS pages c.args.body.now 9) c.if-count-pages.false
    (turn_more g.row.SLOTS c.in-Ok-Turn-default.field-0-0-0 c.in-Ok-Turn-default.count c.in-Ok-Turn-default.len 9 c.args.body.now
    (subst (λ r. BeginsWith c.args.body.now r c.in-Ok-Turn-default.len) c.in-Ok-Turn-default.field-0-0-is c.in-Ok-Turn-default.ensures.ok) c.if-len-body.true refl)

pub returns-in-Ok-OfCells-default-clause-damaged : goal.returns-in-Ok-OfCells-default-clause-damaged
returns-in-Ok-OfCells-default-clause-damaged g c =
    other
    (other_first c.requires c.args.body.now c.in-Ok-OfCells-default.field-0-0 c.in-Ok-OfCells-default.field-0-1 c.args.pages c.in-Ok-OfCells-default.ensures.ok
    (λ turn. absurd (cc (sym c.in-Ok-OfCells-default.field-0-0-is ∙ turn)))) refl

pub returns-in-Err-clause-damaged : goal.returns-in-Err-clause-damaged
returns-in-Err-clause-damaged g c = other (λ len begins. c.in-Err.ensures.bad (Turn (known_version g.row.SLOTS) c.args.pages) len begins) refl
