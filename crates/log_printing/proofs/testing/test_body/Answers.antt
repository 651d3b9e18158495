use Rattle.std.proofs.Common.{◌≡◌, ℕ, ◌+◌, ◌-◌, ◌≤◌, List, length, take, drop, Err, ap, subst, arith}
use Rattle.std.proofs.lemmas.List.{length-drop, take_all}
use Rattle.opened_images.specs.LogRecords.{HasNoNext}
use Rattle.log_printing.specs.Testing.{TakesFirst}
use Rattle.log_printing.proofs.TestLaws.{front_start, front_more, front_all, front_stops}
use Rattle.log_printing.proofs.testing.test_body.Goals as goal

pub records-preserved : goal.records-preserved
records-preserved g c =
    let size : length (drop c.records.at c.args.body.now) ≤ length c.args.body.now - c.records.at = omega (arith, length-drop c.records.at c.args.body.now) in
    let left : take (length c.args.body.now - c.records.at) (drop c.records.at c.args.body.now) ≡ drop c.records.at c.args.body.now = take_all _ _ size in
    let took = subst (λ (l : List ℕ). TakesFirst g.row.SLOTS l c.in-Ok.len c.records.fitting c.take_record.new.fitting) left c.in-Ok.ensures.took in (
      front_more g.row.SLOTS c.args.body.now c.records.at c.in-Ok.len c.args.fitting.now c.records.fitting c.take_record.new.fitting c.records.invariant.0 took,
      omega (arith, c.in-Ok.ensures.within.1, ap length left, length-drop c.records.at c.args.body.now, c.records-test.true),
    )

pub records-smaller : goal.records-smaller
records-smaller g c =
    let size : length (drop c.records.at c.args.body.now) ≤ length c.args.body.now - c.records.at = omega (arith, length-drop c.records.at c.args.body.now) in
    let left : take (length c.args.body.now - c.records.at) (drop c.records.at c.args.body.now) ≡ drop c.records.at c.args.body.now = take_all _ _ size in
    omega (arith, c.in-Ok.ensures.within.0, c.in-Ok.ensures.within.1, ap length left, length-drop c.records.at c.args.body.now, c.records-test.true)

pub returns-in-Err-Unfit-clause-damaged : goal.returns-in-Err-Unfit-clause-damaged
returns-in-Err-Unfit-clause-damaged g c at is =
    let size : length (drop c.records.at c.args.body.now) ≤ length c.args.body.now - c.records.at = omega (arith, length-drop c.records.at c.args.body.now) in
    let left : take (length c.args.body.now - c.records.at) (drop c.records.at c.args.body.now) ≡ drop c.records.at c.args.body.now = take_all _ _ size in
    let none = subst (λ (l : List ℕ). HasNoNext g.row.SLOTS c.records.fitting.pages c.records.fitting.unended l) left (c.in-Err-Unfit.ensures.unfit (ap Err c.in-Err-Unfit.field-0-is)) in
    let place : c.args.start + c.records.at ≡ at = cc is in (
      c.records.at,
      omega (arith, place),
      front_stops g.row.SLOTS c.args.body.now c.records.at c.args.fitting.now c.records.fitting c.records-test.true c.records.invariant.0 none,
    )
