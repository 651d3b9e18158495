use Rattle.std.proofs.Common.{◌≡◌, ℕ, List, [], ◌∷◌, Option, Ok, Err, Vec, Global, ap, subst, sym, ◌∙◌}
use Rattle.std.specs.Prelude.{IfSome}
use Rattle.disk_model.specs.declared.area.Area.{Area}
use Rattle.gate_log.specs.State.{LogState}
use Rattle.gate_log.specs.CommitBytes.{IsDamaged}
use Rattle.gate_log.specs.OnDisk.{IsRead, after_next}
use Rattle.opened_images.specs.LogRecords.{BeginsWithBody, IsOfVersion, IsDamagedLog, no_first}
use Rattle.store_opening.specs.declared.refusal.ReadRefusal.TheVariants.{Damaged}
use Rattle.store_opening.specs.Firsts.{IsUnknownTurn, IsFirstBody, IsDamagedFirst}
use Rattle.store_opening.specs.Found.{HasFirst}
use Rattle.store_opening.proofs.FirstLaws.{ok_more, of_version, damaged_first}
use Rattle.store_opening.proofs.WalkLaws.{some_more, told_first, told_closed, told_damaged}
use Rattle.store_opening.proofs.found.read_first.Goals as goal

pub returns-in-Ok-Some-clause-first : goal.returns-in-Ok-Some-clause-first
returns-in-Ok-Some-clause-first g c =
    let reads = subst (λ (o : Option (Vec ℕ Global)). IfSome o (λ body. IsRead g.D.Disk.content g.D.Disk.may_leave c.next_batch.new.self c.next_batch.new.disk (body.items ∷ [])))
    c.in-Ok-Some.field-0-is (c.in-Ok-Some.ensures.batch [] c.requires.first) in
    ok_more c.first_pages.result (λ pages. IsFirstBody g.row.SLOTS pages c.deref.result.now) (λ pages. HasFirst g.D.Disk.content g.D.Disk.may_leave g.row.SLOTS pages c.next_batch.new.self c.next_batch.new.disk)
    (λ pages is. record {
      rules = is.rules;
      is_read = subst (λ (l : List ℕ). IsRead g.D.Disk.content g.D.Disk.may_leave c.next_batch.new.self c.next_batch.new.disk (l ∷ [])) (sym c.deref.ensures.value ∙ is.are) reads;
    }) c.first_pages.ensures.first

pub returns-in-Ok-Some-clause-version : goal.returns-in-Ok-Some-clause-version
returns-in-Ok-Some-clause-version g c number is =
    let reads = subst (λ (o : Option (Vec ℕ Global)). IfSome o (λ body. IsRead g.D.Disk.content g.D.Disk.may_leave c.next_batch.new.self c.next_batch.new.disk (body.items ∷ [])))
    c.in-Ok-Some.field-0-is (c.in-Ok-Some.ensures.batch [] c.requires.first) in
    let area_is : c.next_batch.new.self.area ≡ c.args.log.now.area =
    ap (λ (s : LogState). s.area) (c.in-Ok-Some.ensures.log ∙ ap (λ (o : Option (Vec ℕ Global)). after_next c.args.log.now (Ok o)) c.in-Ok-Some.field-0-is) in
    let turn = subst (λ (l : List ℕ). IsUnknownTurn g.row.SLOTS number l) c.deref.ensures.value (c.first_pages.ensures.version number is) in
    some_more (g.D.Disk.content c.args.disk.now c.args.log.now.area) (BeginsWithBody c.in-Ok-Some.body.items) (IsOfVersion g.row.SLOTS number)
    (λ area begins. of_version g.row.SLOTS number c.in-Ok-Some.body.items area turn begins)
    (told_first g.D.Disk.content g.D.Disk.may_leave c.args.log.now c.next_batch.new.self c.args.disk.now c.next_batch.new.disk c.in-Ok-Some.body.items reads c.in-Ok-Some.ensures.sound
    (ap (λ (a : Area). g.D.Disk.content c.next_batch.new.disk a) area_is ∙ (c.next_batch.ensures.keeps c.args.log.now.area).same)
    (g.D.Disk.reads_may_stay c.next_batch.new.disk c.next_batch.new.self.area))

pub returns-in-Ok-Some-clause-damaged : goal.returns-in-Ok-Some-clause-damaged
returns-in-Ok-Some-clause-damaged g c at is =
    let reads = subst (λ (o : Option (Vec ℕ Global)). IfSome o (λ body. IsRead g.D.Disk.content g.D.Disk.may_leave c.next_batch.new.self c.next_batch.new.disk (body.items ∷ [])))
    c.in-Ok-Some.field-0-is (c.in-Ok-Some.ensures.batch [] c.requires.first) in
    let area_is : c.next_batch.new.self.area ≡ c.args.log.now.area =
    ap (λ (s : LogState). s.area) (c.in-Ok-Some.ensures.log ∙ ap (λ (o : Option (Vec ℕ Global)). after_next c.args.log.now (Ok o)) c.in-Ok-Some.field-0-is) in
    let damaged = subst (λ (l : List ℕ). IsDamagedFirst g.row.SLOTS at l) c.deref.ensures.value (c.first_pages.ensures.damaged at is) in
    some_more (g.D.Disk.content c.args.disk.now c.args.log.now.area) (BeginsWithBody c.in-Ok-Some.body.items) (λ area. IsDamagedLog g.row.SLOTS area at)
    (λ area begins. damaged_first g.row.SLOTS at c.in-Ok-Some.body.items area damaged begins)
    (told_first g.D.Disk.content g.D.Disk.may_leave c.args.log.now c.next_batch.new.self c.args.disk.now c.next_batch.new.disk c.in-Ok-Some.body.items reads c.in-Ok-Some.ensures.sound
    (ap (λ (a : Area). g.D.Disk.content c.next_batch.new.disk a) area_is ∙ (c.next_batch.ensures.keeps c.args.log.now.area).same)
    (g.D.Disk.reads_may_stay c.next_batch.new.disk c.next_batch.new.self.area))

pub returns-in-Ok-None-clause-damaged : goal.returns-in-Ok-None-clause-damaged
returns-in-Ok-None-clause-damaged g c at is =
    let place : at ≡ 0 = cc is in
    let area_is : c.next_batch.new.self.area ≡ c.args.log.now.area =
    ap (λ (s : LogState). s.area) (c.in-Ok-None.ensures.log ∙ ap (λ (o : Option (Vec ℕ Global)). after_next c.args.log.now (Ok o)) c.in-Ok-None.field-0-is) in
    some_more (g.D.Disk.content c.args.disk.now c.args.log.now.area) (IsDamaged 0 at) (λ area. IsDamagedLog g.row.SLOTS area at) (λ area is_damaged. no_first is_damaged)
    (told_closed g.D.Disk.content g.D.Disk.may_leave c.args.log.now c.next_batch.new.self c.args.disk.now c.next_batch.new.disk at
    (c.in-Ok-None.ensures.closed [] c.requires.first c.in-Ok-None.field-0-is) c.in-Ok-None.ensures.sound
    (ap (λ (a : Area). g.D.Disk.content c.next_batch.new.disk a) area_is ∙ (c.next_batch.ensures.keeps c.args.log.now.area).same)
    (g.D.Disk.reads_may_stay c.next_batch.new.disk c.next_batch.new.self.area) place)

pub returns-in-Err-clause-damaged : goal.returns-in-Err-clause-damaged
returns-in-Err-clause-damaged g c at is =
    let was : c.told.result ≡ Damaged at = cc is in
    some_more (g.D.Disk.content c.args.disk.now c.args.log.now.area) (IsDamaged c.args.log.now.durable at) (λ area. IsDamagedLog g.row.SLOTS area at)
    (λ area is_damaged. no_first (subst (λ (n : ℕ). IsDamaged n at area) c.requires.first.commit_byte is_damaged))
    (c.in-Err.ensures.damaged at (ap Err (told_damaged c.in-Err.refusal c.told.result at c.told.ensures was)))
