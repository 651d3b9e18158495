use Rattle.std.proofs.Common.{◌≡◌, ℕ, ◌+◌, List, [], ◌∷◌, ◌++◌, length, Option, Some, None, Ok, Err, Vec, Global, ap, subst, ◌∙◌, arith}
use Rattle.std.specs.Prelude.{IfSome}
use Rattle.disk_model.specs.declared.area.Area.{Area}
use Rattle.gate_log.specs.State.{LogState}
use Rattle.gate_log.specs.OnDisk.{IsRead, after_next}
use Rattle.store_opening.specs.declared.refusal.ReadRefusal.TheVariants.{Damaged}
use Rattle.store_opening.specs.Walks.{TakesBody, StopsInBody}
use Rattle.store_opening.proofs.FinalLaws.{not_full}
use Rattle.store_opening.proofs.WalkLaws.{walked_more, walked_end, walked_cut, walked_stop, told_damaged}
use Rattle.store_opening.proofs.walk.walk_batch.Goals as goal

pub returns-in-Ok-clause-step : goal.returns-in-Ok-clause-step
returns-in-Ok-clause-step g c v read walked =
    let reads : (batches : List (List ℕ)) → IsRead g.D.Disk.content g.D.Disk.may_leave c.args.log.now c.args.disk.now batches
    → IsRead g.D.Disk.content g.D.Disk.may_leave c.next_batch.new.self c.next_batch.new.disk (batches ++ c.in-Ok-Some.body.items ∷ []) =
    λ batches is. subst (λ (o : Option (Vec ℕ Global)). IfSome o (λ body. IsRead g.D.Disk.content g.D.Disk.may_leave c.next_batch.new.self c.next_batch.new.disk (batches ++ body.items ∷ [])))
    c.in-Ok-Some.field-0-is (c.in-Ok-Some.ensures.batch batches is) in
    walked_more g.D.Disk.content g.D.Disk.may_leave g.row.SLOTS read v c.args.walk.now.replay c.take_records.new.walk.replay c.args.walk.now.marks c.take_records.new.walk.marks c.args.log.now c.next_batch.new.self c.args.disk.now c.next_batch.new.disk
    c.in-Ok-Some.body.items walked reads
    (subst (λ (l : List ℕ). TakesBody g.row.SLOTS l c.args.walk.now.replay c.take_records.new.walk.replay c.args.walk.now.marks c.take_records.new.walk.marks) c.deref.ensures.value c.in-Ok.ensures.took)

pub returns-in-Err-take_records-clause-damaged : goal.returns-in-Err-take_records-clause-damaged
returns-in-Err-take_records-clause-damaged g c v read walked at is =
    let reads : (batches : List (List ℕ)) → IsRead g.D.Disk.content g.D.Disk.may_leave c.args.log.now c.args.disk.now batches
    → IsRead g.D.Disk.content g.D.Disk.may_leave c.next_batch.new.self c.next_batch.new.disk (batches ++ c.in-Ok-Some.body.items ∷ []) =
    λ batches is. subst (λ (o : Option (Vec ℕ Global)). IfSome o (λ body. IsRead g.D.Disk.content g.D.Disk.may_leave c.next_batch.new.self c.next_batch.new.disk (batches ++ body.items ∷ [])))
    c.in-Ok-Some.field-0-is (c.in-Ok-Some.ensures.batch batches is) in
    let next_is : c.next_batch.new.self ≡ after_next c.args.log.now (Ok (Some c.in-Ok-Some.body)) =
    c.in-Ok-Some.ensures.log ∙ ap (λ (o : Option (Vec ℕ Global)). after_next c.args.log.now (Ok o)) c.in-Ok-Some.field-0-is in
    let area_is : c.next_batch.new.self.area ≡ c.args.log.now.area = ap (λ (s : LogState). s.area) next_is in
    let durable_is : c.next_batch.new.self.durable ≡ c.args.log.now.durable + 5 + length c.in-Ok-Some.body.items = ap (λ (s : LogState). s.durable) next_is in
    let refused : c.in-Err-take_records.refusal ≡ Damaged at = cc is in
    let stop = c.in-Err-take_records.ensures.damaged at (ap Err refused) in
    walked_stop g.D.Disk.content g.D.Disk.may_leave g.row.SLOTS read v c.args.walk.now.replay c.args.walk.now.marks c.args.log.now c.next_batch.new.self c.args.disk.now c.next_batch.new.disk
    c.in-Ok-Some.body.items at stop.0 walked reads c.in-Ok-Some.ensures.sound
    (ap (λ (a : Area). g.D.Disk.content c.next_batch.new.disk a) area_is ∙ (c.next_batch.ensures.keeps c.args.log.now.area).same)
    (g.D.Disk.reads_may_stay c.next_batch.new.disk c.next_batch.new.self.area)
    (subst (λ (l : List ℕ). StopsInBody g.row.SLOTS l stop.0 c.args.walk.now.replay) c.deref.ensures.value stop.2)
    (omega (arith, stop.1, c.durable-end.ensures, durable_is, ap length c.deref.ensures.value))

pub returns-in-Ok-None-clause-step : goal.returns-in-Ok-None-clause-step
returns-in-Ok-None-clause-step g c v read walked =
    let next_is : c.next_batch.new.self ≡ after_next c.args.log.now (Ok None) =
    c.in-Ok-None.ensures.log ∙ ap (λ (o : Option (Vec ℕ Global)). after_next c.args.log.now (Ok o)) c.in-Ok-None.field-0-is in
    let area_is : c.next_batch.new.self.area ≡ c.args.log.now.area = ap (λ (s : LogState). s.area) next_is in
    walked_end g.D.Disk.content g.D.Disk.may_leave g.row.SLOTS read v c.args.walk.now.replay c.args.walk.now.marks c.args.log.now c.next_batch.new.self c.args.disk.now c.next_batch.new.disk walked
    (λ batches is. c.in-Ok-None.ensures.closed batches is c.in-Ok-None.field-0-is) c.in-Ok-None.ensures.sound
    (ap (λ (a : Area). g.D.Disk.content c.next_batch.new.disk a) area_is ∙ (c.next_batch.ensures.keeps c.args.log.now.area).same)
    (g.D.Disk.reads_may_stay c.next_batch.new.disk c.next_batch.new.self.area)

pub returns-in-Err-clause-damaged : goal.returns-in-Err-clause-damaged
returns-in-Err-clause-damaged g c v read walked at is =
    let was : c.told.result ≡ Damaged at = cc is in
    walked_cut g.D.Disk.content g.D.Disk.may_leave g.row.SLOTS read v c.args.walk.now.replay c.args.walk.now.marks c.args.log.now c.args.disk.now at walked
    (c.in-Err.ensures.damaged at (ap Err (told_damaged c.in-Err.refusal c.told.result at c.told.ensures was)))
    (g.D.Disk.reads_may_stay c.args.disk.now c.args.log.now.area)

pub told-requires : goal.told-requires
told-requires g c = not_full c.in-Err.refusal c.in-Err.ensures.refusals
