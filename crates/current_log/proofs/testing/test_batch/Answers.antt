use Rattle.std.proofs.Common.{◌≡◌, ℕ, ◌+◌, ◌<◌, ◌≤◌, List, length, Option, Err, Vec, Global, ap, subst, sym, arith, rules}
use Rattle.std.specs.Prelude.{IfSome, MatchOption}
use Rattle.gate_log.specs.Batches.{most_bytes}
use Rattle.gate_log.specs.CommitBytes.{IsBatchAt, IsDamaged}
use Rattle.gate_log.specs.declared.refusal.LogRefusal.TheVariants.{Damaged}
use Rattle.opened_images.specs.LogRecords.{IsDamagedLog, unended_behind}
use Rattle.store_opening.proofs.WalkLaws.{some_both}
use Rattle.current_log.specs.Tested.{HasTested, FitsBody, StopsBody}
use Rattle.current_log.proofs.BatchLaws.{IsShortBatch, short_batch, tested_more, tested_cut, tested_stop}
use Rattle.current_log.proofs.testing.test_batch.Goals as goal

pub returns-in-Err-clause-damaged : goal.returns-in-Err-clause-damaged
returns-in-Err-clause-damaged g c tested place is =
    let was : c.in-Err.refusal ≡ Damaged place = cc is in
    some_both (g.D.Disk.content c.args.disk.now c.args.area) (HasTested g.row.SLOTS c.args.pages c.args.at c.args.replay.now) (IsDamaged c.args.at place) (λ area. IsDamagedLog g.row.SLOTS area place)
    (λ area was damaged. tested_cut g.row.SLOTS c.args.pages c.args.at place c.args.replay.now area was damaged) tested (c.in-Err.ensures.damaged place (ap Err was))

pub overflow_add-result-in-Ok-Some-test_records : goal.overflow_add-result-in-Ok-Some-test_records
overflow_add-result-in-Ok-Some-test_records g c =
    let small = subst (λ (o : Option (Vec ℕ Global)). IfSome o (λ body. c.args.at + 5 + length body.items ≤ most_bytes)) c.in-Ok-Some.field-0-is c.in-Ok-Some.ensures.small in
    let within = subst (λ (o : Option ℕ). IfSome o (λ at. at < length c.deref.result.now)) c.in-Ok-Some-test_records.field-0-is c.in-Ok-Some-test_records.ensures.within in
    omega (arith, small, within, ap length c.deref.ensures.value)

pub returns-in-Ok-None-test_records-clause-tested : goal.returns-in-Ok-None-test_records-clause-tested
returns-in-Ok-None-test_records-clause-tested g c tested =
    let batch = subst (λ (o : Option (Vec ℕ Global)). IfSome o (λ body. IfSome (g.D.Disk.content c.args.disk.now c.args.area) (IsBatchAt c.args.at body.items))) c.in-Ok-Some.field-0-is c.in-Ok-Some.ensures.batch in
    some_both (g.D.Disk.content c.args.disk.now c.args.area) (HasTested g.row.SLOTS c.args.pages c.args.at c.args.replay.now) (IsBatchAt c.args.at c.in-Ok-Some.body.items)
    (HasTested g.row.SLOTS c.args.pages (c.args.at + 5 + c.len.result) c.test_records.new.replay)
    (λ area was there.
    let fits = subst (λ (o : Option ℕ). MatchOption o (FitsBody g.row.SLOTS c.args.pages (unended_behind was.batches) c.deref.result.now c.test_records.new.replay) (λ at. StopsBody g.row.SLOTS c.args.pages (unended_behind was.batches) c.deref.result.now at))
    c.in-Ok-None-test_records.field-0-is (c.in-Ok-None-test_records.ensures.tested (unended_behind was.batches) was.testing) in
    let long : length c.in-Ok-Some.body.items ≡ c.len.result = search rules in
    subst (λ (n : ℕ). HasTested g.row.SLOTS c.args.pages (c.args.at + 5 + n) c.test_records.new.replay area) long
    (tested_more g.row.SLOTS c.args.pages c.args.at c.args.replay.now c.test_records.new.replay c.in-Ok-Some.body.items area was there
    (subst (λ (l : List ℕ). FitsBody g.row.SLOTS c.args.pages (unended_behind was.batches) l c.test_records.new.replay) c.deref.ensures.value fits)))
    tested batch

pub returns-in-Ok-Some-test_records-clause-damaged : goal.returns-in-Ok-Some-test_records-clause-damaged
returns-in-Ok-Some-test_records-clause-damaged g c tested place is =
    let batch = subst (λ (o : Option (Vec ℕ Global)). IfSome o (λ body. IfSome (g.D.Disk.content c.args.disk.now c.args.area) (IsBatchAt c.args.at body.items))) c.in-Ok-Some.field-0-is c.in-Ok-Some.ensures.batch in
    let at_place : c.args.at + 5 + c.in-Ok-Some-test_records.offset ≡ place = cc is in
    some_both (g.D.Disk.content c.args.disk.now c.args.area) (HasTested g.row.SLOTS c.args.pages c.args.at c.args.replay.now) (IsShortBatch c.args.at c.in-Ok-Some.body.items) (λ area. IsDamagedLog g.row.SLOTS area place)
    (λ area was there.
    let stops = subst (λ (o : Option ℕ). MatchOption o (FitsBody g.row.SLOTS c.args.pages (unended_behind was.batches) c.deref.result.now c.test_records.new.replay) (λ at. StopsBody g.row.SLOTS c.args.pages (unended_behind was.batches) c.deref.result.now at))
    c.in-Ok-Some-test_records.field-0-is (c.in-Ok-Some-test_records.ensures.tested (unended_behind was.batches) was.testing) in
    tested_stop g.row.SLOTS c.args.pages c.args.at c.in-Ok-Some-test_records.offset place c.args.replay.now c.in-Ok-Some.body.items area was there.batch there.short
    (subst (λ (l : List ℕ). StopsBody g.row.SLOTS c.args.pages (unended_behind was.batches) l c.in-Ok-Some-test_records.offset) c.deref.ensures.value stops) (sym at_place))
    tested (short_batch (g.D.Disk.content c.args.disk.now c.args.area) c.args.at c.in-Ok-Some.body.items batch c.in-Ok-Some.ensures.short)
