use Rattle.std.proofs.Common.{◌≡◌, ℕ, ◌+◌, ◌-◌, ◌≤◌, List, length, take, drop, Err, ap, subst, arith}
use Rattle.std.proofs.lemmas.List.{length-drop, take_all}
use Rattle.store_opening.specs.Walks.{TakesFirst, TakesNone}
use Rattle.store_opening.proofs.TakeLaws.{front_more, front_stops}
use Rattle.store_opening.proofs.walk.take_records.Goals as goal

pub records-preserved : goal.records-preserved
records-preserved g c =
    let size : length (drop c.records.at c.args.body.now) ≤ length c.args.body.now - c.records.at = omega (arith, length-drop c.records.at c.args.body.now) in
    let left : take (length c.args.body.now - c.records.at) (drop c.records.at c.args.body.now) ≡ drop c.records.at c.args.body.now = take_all _ _ size in
    let took = subst (λ (l : List ℕ). TakesFirst g.row.SLOTS l c.in-Ok.len c.records.walk.replay c.take_record.new.walk.replay c.records.walk.marks c.take_record.new.walk.marks) left c.in-Ok.ensures.took in (
      front_more g.row.SLOTS c.args.body.now c.records.at c.in-Ok.len c.args.walk.now.replay c.records.walk.replay c.take_record.new.walk.replay c.args.walk.now.marks c.records.walk.marks c.take_record.new.walk.marks c.records.invariant.0 took,
      omega (arith, c.in-Ok.ensures.within.1, ap length left, length-drop c.records.at c.args.body.now, c.records-test.true),
      c.take_record.ensures.same,
      c.take_record.ensures.as_many,
    )

pub returns-in-Err-Unfit-clause-damaged : goal.returns-in-Err-Unfit-clause-damaged
returns-in-Err-Unfit-clause-damaged g c at is =
    let size : length (drop c.records.at c.args.body.now) ≤ length c.args.body.now - c.records.at = omega (arith, length-drop c.records.at c.args.body.now) in
    let left : take (length c.args.body.now - c.records.at) (drop c.records.at c.args.body.now) ≡ drop c.records.at c.args.body.now = take_all _ _ size in
    let none = subst (λ (l : List ℕ). TakesNone g.row.SLOTS l c.records.walk.replay) left (c.in-Err-Unfit.ensures.unfit (ap Err c.in-Err-Unfit.field-0-is)) in
    let place : c.args.end - length c.args.body.now + c.records.at ≡ at = cc is in (
      c.records.at,
      omega (arith, place, c.requires.within),
      front_stops g.row.SLOTS c.args.body.now c.records.at c.args.walk.now.replay c.records.walk.replay c.args.walk.now.marks c.records.walk.marks c.records-test.true c.records.invariant.0 none,
    )
