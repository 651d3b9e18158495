use Rattle.std.proofs.Common.{◌≡◌, ℕ, ◌-◌, ◌≤◌, List, length, take, drop, Err, ap, subst, arith, length-drop, rules}
use Rattle.std.proofs.lemmas.List.{take_all}
use Rattle.opened_images.specs.LogRecords.{unended_by_all, HasNoNext}
use Rattle.current_log.specs.Tested.{FitsFirst}
use Rattle.current_log.proofs.TestLaws.{front_start, front_more, front_all, front_stops}
use Rattle.current_log.proofs.records.test_records.Goals as goal

pub records-init : goal.records-init
records-init g c = (λ us is. front_start g.row.SLOTS c.args.pages us c.args.body.now c.args.replay.now is, omega arith)

pub records-preserved : goal.records-preserved
records-preserved g c =
    let size : length (drop c.records.at c.args.body.now) ≤ length c.args.body.now - c.records.at = omega (arith, length-drop c.records.at c.args.body.now) in
    let left : take (length c.args.body.now - c.records.at) (drop c.records.at c.args.body.now) ≡ drop c.records.at c.args.body.now = take_all _ _ size in (
      λ us is.
          let front = c.records.invariant.0 us is in
          front_more g.row.SLOTS c.args.pages us c.args.body.now c.records.at c.in-Ok.len c.records.replay c.test_record.new.replay front
          (subst (λ (l : List ℕ). FitsFirst g.row.SLOTS c.args.pages (unended_by_all us front.rs) l c.in-Ok.len c.test_record.new.replay) left (c.in-Ok.ensures.fits _ front.testing)),
      omega (arith, c.in-Ok.ensures.within.1, ap length left, length-drop c.records.at c.args.body.now, c.records-test.true),
    )

pub returns-in-Err-Unfit-clause-tested : goal.returns-in-Err-Unfit-clause-tested
returns-in-Err-Unfit-clause-tested g c us is =
    let size : length (drop c.records.at c.args.body.now) ≤ length c.args.body.now - c.records.at = omega (arith, length-drop c.records.at c.args.body.now) in
    let left : take (length c.args.body.now - c.records.at) (drop c.records.at c.args.body.now) ≡ drop c.records.at c.args.body.now = take_all _ _ size in
    let front = c.records.invariant.0 us is in
    front_stops g.row.SLOTS c.args.pages us c.args.body.now c.records.at c.records.replay c.records-test.true front
    (subst (λ (l : List ℕ). HasNoNext g.row.SLOTS c.args.pages (unended_by_all us front.rs) l) left (c.in-Err-Unfit.ensures.unfit _ front.testing (ap Err c.in-Err-Unfit.field-0-is)))

pub returns-clause-tested : goal.returns-clause-tested
returns-clause-tested g c us is = front_all g.row.SLOTS c.args.pages us c.args.body.now c.records.at c.records.replay (search rules) (c.records.invariant.0 us is)
