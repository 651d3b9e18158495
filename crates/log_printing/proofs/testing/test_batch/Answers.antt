use Rattle.std.proofs.Common.{◌≡◌, ℕ, ◌+◌, List, length, Err, ap, sym, subst, ◌∙◌, arith, rules, refl}
use Rattle.gate_log.specs.CommitBytes.{IsDamaged}
use Rattle.log_printing.specs.declared.view_refusal.ViewRefusal.TheVariants.{Damaged}
use Rattle.log_printing.specs.Testing.{HasRead, StopsLog}
use Rattle.log_printing.proofs.TestLaws.{read_more, read_end, read_cut, read_stop}
use Rattle.log_printing.proofs.testing.test_batch.Goals as goal

pub returns-in-Ok-clause-more : goal.returns-in-Ok-clause-more
returns-in-Ok-clause-more g c pages has =
    read_more g.row.SLOTS pages c.args.area.now c.in-Ok-Some.body.now c.args.at c.args.fitting.now c.test_body.new.fitting has (rw c.in-Ok-Some.field-0-is at c.in-Ok-Some.ensures.batch) c.in-Ok.ensures.took

pub returns-in-Err-test_body-clause-damaged : goal.returns-in-Err-test_body-clause-damaged
returns-in-Err-test_body-clause-damaged g c pages has place is =
    let refused : c.in-Err-test_body.refusal ≡ Damaged place = cc is in
    let stop = c.in-Err-test_body.ensures.damaged place (ap Err refused) in
    read_stop g.row.SLOTS pages c.args.area.now c.in-Ok-Some.body.now c.args.at place stop.0 c.args.fitting.now has (rw c.in-Ok-Some.field-0-is at c.in-Ok-Some.ensures.batch) c.in-Ok-Some.ensures.short stop.2 stop.1

pub returns-in-Err-clause-damaged : goal.returns-in-Err-clause-damaged
returns-in-Err-clause-damaged g c pages has place is =
    let there : c.in-Err.place ≡ place = cc is in
    read_cut g.row.SLOTS pages c.args.area.now c.args.at place c.args.fitting.now has (subst (λ (n : ℕ). IsDamaged c.args.at n c.args.area.now) there c.in-Err.ensures.damaged)
