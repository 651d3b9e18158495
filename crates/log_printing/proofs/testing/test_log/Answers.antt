use Rattle.std.proofs.Common.{◌≡◌, ℕ, ◌+◌, List, length, Err, ap, sym, subst, ◌∙◌, arith, rules, refl}
use Rattle.gate_log.specs.CommitBytes.{IsDamaged}
use Rattle.log_printing.specs.declared.view_refusal.ViewRefusal.TheVariants.{Damaged}
use Rattle.log_printing.specs.Damage.{IsDamagedFor}
use Rattle.log_printing.specs.Fitting.{Fitting}
use Rattle.log_printing.specs.Testing.{HasRead, IsDamagedFirst}
use Rattle.log_printing.proofs.TestLaws.{read_first, begins_body, damaged_at_first, damaged_in_first, damaged_behind}
use Rattle.log_printing.proofs.testing.test_log.Goals as goal

pub returns-in-Err-test_first-clause-damaged : goal.returns-in-Err-test_first-clause-damaged
returns-in-Err-test_first-clause-damaged g c at is =
    let there : c.in-Err-test_first.at ≡ at = cc is in
    damaged_in_first g.row.SLOTS c.args.pages c.in-Ok-Some.body.now c.args.area.now at
    (begins_body c.in-Ok-Some.body.now c.args.area.now (rw c.in-Ok-Some.field-0-is at c.in-Ok-Some.ensures.batch) c.in-Ok-Some.ensures.short)
    (subst (λ (n : ℕ). IsDamagedFirst g.row.SLOTS c.args.pages c.in-Ok-Some.body.now n) there c.in-Err-test_first.ensures.damaged)

pub returns-in_ok-fitting-in-Ok-Some-clause-log : goal.returns-in_ok-fitting-in-Ok-Some-clause-log
returns-in_ok-fitting-in-Ok-Some-clause-log g c =
    c.test_batches.ensures.log c.args.pages
    (subst (λ (f : Fitting). HasRead g.row.SLOTS c.args.pages c.args.area.now (5 + length c.in-Ok-Some.body.now) f) (sym c.in_ok-fitting-in-Ok-Some.ensures)
    (read_first g.row.SLOTS c.args.pages c.in-Ok-Some.body.now c.args.area.now c.in_default.ensures.first (rw c.in-Ok-Some.field-0-is at c.in-Ok-Some.ensures.batch)))

pub returns-in_ok-fitting-in-Ok-Some-clause-damaged : goal.returns-in_ok-fitting-in-Ok-Some-clause-damaged
returns-in_ok-fitting-in-Ok-Some-clause-damaged g c at is =
    damaged_behind g.row.SLOTS c.args.pages c.in-Ok-Some.body.now c.args.area.now at c.in_default.ensures.first
    (begins_body c.in-Ok-Some.body.now c.args.area.now (rw c.in-Ok-Some.field-0-is at c.in-Ok-Some.ensures.batch) c.in-Ok-Some.ensures.short)
    (c.test_batches.ensures.damaged c.args.pages
    (subst (λ (f : Fitting). HasRead g.row.SLOTS c.args.pages c.args.area.now (5 + length c.in-Ok-Some.body.now) f) (sym c.in_ok-fitting-in-Ok-Some.ensures)
    (read_first g.row.SLOTS c.args.pages c.in-Ok-Some.body.now c.args.area.now c.in_default.ensures.first (rw c.in-Ok-Some.field-0-is at c.in-Ok-Some.ensures.batch))) at is)

pub returns-in-Err-clause-damaged : goal.returns-in-Err-clause-damaged
returns-in-Err-clause-damaged g c at is =
    let there : c.in-Err.at ≡ at = cc is in
    damaged_at_first g.row.SLOTS c.args.pages c.args.area.now at (subst (λ (n : ℕ). IsDamaged 0 n c.args.area.now) there c.in-Err.ensures.damaged)
