use Rattle.std.proofs.Common.{◌≡◌, ℕ, ◌+◌, List, length, Err, ap, sym, subst, ◌∙◌, arith, rules, refl}
use Rattle.log_printing.specs.declared.view_refusal.ViewRefusal.TheVariants.{Damaged}
use Rattle.log_printing.proofs.testing.test_batches.Goals as goal

pub batches-preserved : goal.batches-preserved
batches-preserved g c = (
  (rw c.in-Ok-Some.field-0-is at c.in-Ok-Some.ensures.goes_on).1,
  λ pages has. rw c.in-Ok-Some.field-0-is at c.in-Ok-Some.ensures.more pages (c.batches.invariant.1 pages has),
)

pub returns-in-Ok-None-clause-log : goal.returns-in-Ok-None-clause-log
returns-in-Ok-None-clause-log g c pages has = rw c.in-Ok-None.field-0-is at c.in-Ok-None.ensures.ends pages (c.batches.invariant.1 pages has)

pub returns-in-Err-clause-damaged : goal.returns-in-Err-clause-damaged
returns-in-Err-clause-damaged g c pages has place is =
    let refused : c.in-Err.refusal ≡ Damaged place = cc is in
    c.in-Err.ensures.damaged pages (c.batches.invariant.1 pages has) place (ap Err refused)
