use Rattle.std.proofs.Common.{◌≡◌, ℕ, List, [], ◌∷◌, Option, Some, Err, ap, subst, ◌∙◌}
use Rattle.std.specs.Prelude.{IfSome}
use Rattle.disk_model.specs.declared.area.Area.{Area}
use Rattle.gate_log.specs.State.{LogState}
use Rattle.gate_log.specs.OnDisk.{IsOn}
use Rattle.log_replay.specs.Replays.{Replaying}
use Rattle.opened_images.specs.LogRecords.{body_of, bodies_of, all_of, first_records, IsDamagedLog}
use Rattle.page_marks.specs.Marks.{AreMarks}
use Rattle.store_opening.specs.declared.refusal.ReadRefusal.TheVariants.{Damaged}
use Rattle.store_opening.specs.Walked.{EndsWalk, StopsWalk}
use Rattle.store_opening.specs.Replayed.{replay_start, StopsReplay, in_first, behind}
use Rattle.store_opening.proofs.LookLaws.{and_look}
use Rattle.store_opening.proofs.WalkLaws.{some_more, walked_none, unmarked-yet}
use Rattle.store_opening.proofs.StoreLaws.{told_of}
use Rattle.store_opening.proofs.ReplayLaws.{replay_stops, replay_ends, replay_batches}
use Rattle.gate_log.specs.Batches.{IsLog, most_bytes}
use Rattle.disk_model.specs.Areas.{in_area}
use Rattle.store_opening.proofs.replayed.replay_log.Goals as goal

pub returns-in-Err-walk_log-clause-looks : goal.returns-in-Err-walk_log-clause-looks
returns-in-Err-walk_log-clause-looks g c = and_look g.D.Disk.content c.read_first.ensures.looks c.walk_log.ensures.looks

pub returns-clause-looks : goal.returns-clause-looks
returns-clause-looks g c = and_look g.D.Disk.content c.read_first.ensures.looks c.walk_log.ensures.looks

pub returns-in-Err-clause-damaged : goal.returns-in-Err-clause-damaged
returns-in-Err-clause-damaged g c at is =
    let refused : c.in-Err.refusal ≡ Damaged at = cc is in
    let v = replay_start c.args.pages.items c.args.images.items in
    let damaged = subst (λ (a : Area). IfSome (g.D.Disk.content c.args.disk.now a) (λ bytes. IsDamagedLog g.row.SLOTS bytes at)) (ap (λ (s : LogState). s.area) c.start-log.ensures)
    (c.in-Err.ensures.damaged at (ap Err refused)) in
    some_more (g.D.Disk.content c.args.disk.now c.args.area) (λ bytes. IsDamagedLog g.row.SLOTS bytes at) (StopsReplay g.row.SLOTS v at) (λ bytes there. in_first there) damaged

pub returns-in-Err-walk_log-clause-damaged : goal.returns-in-Err-walk_log-clause-damaged
returns-in-Err-walk_log-clause-damaged g c at is =
    let first = c.in_default.ensures.first in
    let v = replay_start c.args.pages.items c.args.images.items in
    let refused : c.in-Err-walk_log.refusal ≡ Damaged at = cc is in
    let read : List (List ℕ) = body_of (first_records g.row.SLOTS c.in_default.field-0) ∷ [] in
    let walked = walked_none g.D.Disk.content g.D.Disk.may_leave g.row.SLOTS read c.over.result c.in_ok-marks.marks c.read_first.new.log c.read_first.new.disk
    (unmarked-yet g.row.SLOTS c.len.result c.in_ok-marks.marks c.in_ok-marks.ensures.none) first.is_read in
    let area_is : c.read_first.new.log.area ≡ c.args.area = c.read_first.ensures.area ∙ ap (λ (s : LogState). s.area) c.start-log.ensures in
    let same : g.D.Disk.content c.read_first.new.disk c.read_first.new.log.area ≡ g.D.Disk.content c.args.disk.now c.args.area =
    ap (λ (a : Area). g.D.Disk.content c.read_first.new.disk a) area_is ∙ (c.read_first.ensures.looks.keeps c.args.area).same in
    subst (λ (o : Option (List ℕ)). IfSome o (StopsReplay g.row.SLOTS v at)) same
    (some_more (g.D.Disk.content c.read_first.new.disk c.read_first.new.log.area) (StopsWalk g.row.SLOTS read c.over.result at) (StopsReplay g.row.SLOTS v at)
    (λ bytes stops. behind c.in_default.field-0 first.rules (subst (λ (x : Replaying). StopsWalk g.row.SLOTS read x at bytes) c.over.ensures stops))
    (c.in-Err-walk_log.ensures.damaged c.over.result read walked at (ap Err refused)))

pub returns-clause-done : goal.returns-clause-done
returns-clause-done g c =
    let first = c.in_default.ensures.first in
    let read : List (List ℕ) = body_of (first_records g.row.SLOTS c.in_default.field-0) ∷ [] in
    let walked = walked_none g.D.Disk.content g.D.Disk.may_leave g.row.SLOTS read c.over.result c.in_ok-marks.marks c.read_first.new.log c.read_first.new.disk
    (unmarked-yet g.row.SLOTS c.len.result c.in_ok-marks.marks c.in_ok-marks.ensures.none) first.is_read in
    record {
      count = c.in_default.field-0;
      rules = first.rules;
      ends = subst (λ (x : Replaying). EndsWalk g.D.Disk.content g.D.Disk.may_leave g.row.SLOTS read x c.walk_log.new.walk.replay c.walk_log.new.walk.marks c.walk_log.new.log c.walk_log.new.disk) c.over.ensures
          (c.in_default-walk_log.ensures.done c.over.result read walked);
    }

pub returns-in-Err-clause-unfit : goal.returns-in-Err-clause-unfit
returns-in-Err-clause-unfit g c at is image reads ready =
    replay_stops c.requires.count image c.args.area at c.args.pages.items c.args.images.items c.requires.images ready
    (told_of (g.D.Disk.content c.args.disk.now c.args.area) (in_area image c.args.area) (StopsReplay g.row.SLOTS (replay_start c.args.pages.items c.args.images.items) at) (reads c.args.area)
    (returns-in-Err-clause-damaged g c at is))

pub returns-in-Err-walk_log-clause-unfit : goal.returns-in-Err-walk_log-clause-unfit
returns-in-Err-walk_log-clause-unfit g c at is image reads ready =
    replay_stops c.requires.count image c.args.area at c.args.pages.items c.args.images.items c.requires.images ready
    (told_of (g.D.Disk.content c.args.disk.now c.args.area) (in_area image c.args.area) (StopsReplay g.row.SLOTS (replay_start c.args.pages.items c.args.images.items) at) (reads c.args.area)
    (returns-in-Err-walk_log-clause-damaged g c at is))

pub returns-clause-replayed : goal.returns-clause-replayed
returns-clause-replayed g c image reads ready =
    let done = returns-clause-done g c in
    let area_is : c.walk_log.new.log.area ≡ c.args.area = c.walk_log.ensures.area ∙ c.read_first.ensures.area ∙ ap (λ (s : LogState). s.area) c.start-log.ensures in
    let same : g.D.Disk.content c.walk_log.new.disk c.walk_log.new.log.area ≡ Some (in_area image c.args.area) =
    ap (λ (a : Area). g.D.Disk.content c.walk_log.new.disk a) area_is ∙ (c.walk_log.ensures.looks.keeps c.args.area).same ∙ (c.read_first.ensures.looks.keeps c.args.area).same ∙ reads c.args.area in
    replay_ends c.requires.count image c.args.area c.args.pages.items c.args.images.items done.count done.ends.batches c.walk_log.new.walk.replay c.requires.images ready done.rules done.ends.takes
    (told_of (g.D.Disk.content c.walk_log.new.disk c.walk_log.new.log.area) (in_area image c.args.area) (IsLog most_bytes (body_of (first_records g.row.SLOTS done.count) ∷ bodies_of done.ends.batches)) same done.ends.whole)

pub returns-clause-on : goal.returns-clause-on
returns-clause-on g c image reads ready =
    let done = returns-clause-done g c in
    let area_is : c.walk_log.new.log.area ≡ c.args.area = c.walk_log.ensures.area ∙ c.read_first.ensures.area ∙ ap (λ (s : LogState). s.area) c.start-log.ensures in
    let same : g.D.Disk.content c.walk_log.new.disk c.walk_log.new.log.area ≡ Some (in_area image c.args.area) =
    ap (λ (a : Area). g.D.Disk.content c.walk_log.new.disk a) area_is ∙ (c.walk_log.ensures.looks.keeps c.args.area).same ∙ (c.read_first.ensures.looks.keeps c.args.area).same ∙ reads c.args.area in
    let they = replay_batches c.requires.count image c.args.area c.args.pages.items c.args.images.items done.count done.ends.batches c.walk_log.new.walk.replay c.requires.images ready done.rules done.ends.takes
    (told_of (g.D.Disk.content c.walk_log.new.disk c.walk_log.new.log.area) (in_area image c.args.area) (IsLog most_bytes (body_of (first_records g.row.SLOTS done.count) ∷ bodies_of done.ends.batches)) same done.ends.whole) in
    subst (λ (n : ℕ). IsOn g.D.Disk.may_leave c.walk_log.new.log c.walk_log.new.disk (body_of (first_records g.row.SLOTS n) ∷ bodies_of ready.batches)) they.0
    (subst (λ b. IsOn g.D.Disk.may_leave c.walk_log.new.log c.walk_log.new.disk (body_of (first_records g.row.SLOTS done.count) ∷ bodies_of b)) they.1 done.ends.is_on)

pub returns-clause-marked : goal.returns-clause-marked
returns-clause-marked g c image reads ready =
    let done = returns-clause-done g c in
    let area_is : c.walk_log.new.log.area ≡ c.args.area = c.walk_log.ensures.area ∙ c.read_first.ensures.area ∙ ap (λ (s : LogState). s.area) c.start-log.ensures in
    let same : g.D.Disk.content c.walk_log.new.disk c.walk_log.new.log.area ≡ Some (in_area image c.args.area) =
    ap (λ (a : Area). g.D.Disk.content c.walk_log.new.disk a) area_is ∙ (c.walk_log.ensures.looks.keeps c.args.area).same ∙ (c.read_first.ensures.looks.keeps c.args.area).same ∙ reads c.args.area in
    let they = replay_batches c.requires.count image c.args.area c.args.pages.items c.args.images.items done.count done.ends.batches c.walk_log.new.walk.replay c.requires.images ready done.rules done.ends.takes
    (told_of (g.D.Disk.content c.walk_log.new.disk c.walk_log.new.log.area) (in_area image c.args.area) (IsLog most_bytes (body_of (first_records g.row.SLOTS done.count) ∷ bodies_of done.ends.batches)) same done.ends.whole) in
    subst (λ b. AreMarks (all_of b) c.walk_log.new.walk.marks) they.1 done.ends.marked
