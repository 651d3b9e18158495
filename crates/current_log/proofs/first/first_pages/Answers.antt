use Rattle.std.proofs.Common.{◌≡◌, subst, sym, ◌∙◌}
use Rattle.log_record.specs.declared.record.Record.TheVariants.{Turn}
use Rattle.log_record.specs.Spelling.{known_version, BeginsWith}
use Rattle.store_opening.specs.Firsts.{no_turn}
use Rattle.store_opening.proofs.FirstLaws.{turn_more, other_first}
use Rattle.current_log.proofs.first.first_pages.Goals as goal

pub returns-then-len-body-clause-damaged : goal.returns-then-len-body-clause-damaged
returns-then-len-body-clause-damaged g c at is =
    let place : at ≡ 9 = cc is in
    turn_more g.row.SLOTS c.in-Ok-Turn-default.field-0-0-0 c.in-Ok-Turn-default.pages c.in-Ok-Turn-default.len at c.args.body.now
    (subst (λ r. BeginsWith c.args.body.now r c.in-Ok-Turn-default.len) c.in-Ok-Turn-default.field-0-0-is c.in-Ok-Turn-default.ensures.ok) c.if-len-body.true place

pub returns-in-Ok-OfCells-default-clause-damaged : goal.returns-in-Ok-OfCells-default-clause-damaged
returns-in-Ok-OfCells-default-clause-damaged g c at is =
    let place : at ≡ 5 = cc is in
    no_turn c.in_default.ensures.none
    (other_first c.requires c.args.body.now c.in-Ok-OfCells-default.field-0-0 c.in-Ok-OfCells-default.field-0-1 c.in-Ok-OfCells-default.ensures.ok
    (λ pages turn. absurd (cc (sym c.in-Ok-OfCells-default.field-0-0-is ∙ turn)))) place

pub returns-in-Err-clause-damaged : goal.returns-in-Err-clause-damaged
returns-in-Err-clause-damaged g c at is =
    let place : at ≡ 5 = cc is in
    no_turn c.in_default.ensures.none (λ pages len begins. c.in-Err.ensures.bad (Turn (known_version g.row.SLOTS) pages) len begins) place
