use Rattle.std.proofs.Common.{◌≡◌, ℕ, ◌-◌, ◌<◌, List, [], ◌∷◌, map, Option, Err, ap, subst, ◌∙◌}
use Rattle.std.specs.Prelude.{IfSome, slice_index}
use Rattle.disk_model.specs.declared.area.Area.{Area}
use Rattle.gate_log.specs.Batches.{IsLog, most_bytes}
use Rattle.gate_log.specs.State.{LogState}
use Rattle.opened_images.specs.LogRecords.{body_of, bodies_of, all_of, first_records, IsRecordLog, IsDamagedLog}
use Rattle.store_opening.specs.declared.refusal.ReadRefusal.TheVariants.{Damaged}
use Rattle.store_opening.specs.Walks.{count_images, most_images}
use Rattle.store_opening.specs.Walked.{StopsWalk}
use Rattle.store_opening.proofs.LookLaws.{and_look}
use Rattle.store_opening.proofs.WalkLaws.{some_more, walked_none, unmarked-yet}
use Rattle.store_opening.proofs.FoundLaws.{found_log, found_damage, found_number, found_count}
use Rattle.store_opening.proofs.found.read_log.Goals as goal

pub returns-in-Err-clause-looks : goal.returns-in-Err-clause-looks
returns-in-Err-clause-looks g c = and_look g.D.Disk.content c.read_first.ensures.looks c.walk_log.ensures.looks

pub returns-in_err-images-clause-looks : goal.returns-in_err-images-clause-looks
returns-in_err-images-clause-looks g c = and_look g.D.Disk.content c.read_first.ensures.looks c.walk_log.ensures.looks

pub returns-clause-looks : goal.returns-clause-looks
returns-clause-looks g c = and_look g.D.Disk.content c.read_first.ensures.looks c.walk_log.ensures.looks

pub returns-in-Err-clause-damaged : goal.returns-in-Err-clause-damaged
returns-in-Err-clause-damaged g c at is =
    let first = c.in_ok-pages.ensures.first in
    let refused : c.in-Err.refusal ≡ Damaged at = cc is in
    let walked = walked_none g.D.Disk.content g.D.Disk.may_leave g.row.SLOTS (body_of (first_records g.row.SLOTS c.in_ok-pages.pages) ∷ []) c.in_ok-walk.walk.replay c.in_ok-walk.walk.marks c.read_first.new.log c.read_first.new.disk
    (unmarked-yet g.row.SLOTS c.in_ok-pages.pages c.in_ok-walk.walk.marks c.in_ok-walk.ensures.none) first.is_read in
    let area_is : c.read_first.new.log.area ≡ c.args.area = c.read_first.ensures.area ∙ ap (λ (s : LogState). s.area) c.start-log.ensures in
    let same : g.D.Disk.content c.read_first.new.disk c.read_first.new.log.area ≡ g.D.Disk.content c.args.disk.now c.args.area =
    ap (λ (a : Area). g.D.Disk.content c.read_first.new.disk a) area_is ∙ (c.read_first.ensures.looks.keeps c.args.area).same in
    subst (λ (o : Option (List ℕ)). IfSome o (λ bytes. IsDamagedLog g.row.SLOTS bytes at)) same
    (some_more (g.D.Disk.content c.read_first.new.disk c.read_first.new.log.area) (StopsWalk g.row.SLOTS (body_of (first_records g.row.SLOTS c.in_ok-pages.pages) ∷ []) c.in_ok-walk.walk.replay at)
    (λ bytes. IsDamagedLog g.row.SLOTS bytes at)
    (λ bytes stops. found_damage g.row.SLOTS c.in_ok-pages.pages at c.in_ok-walk.walk.replay bytes first.rules c.in_ok-walk.ensures.waits stops)
    (c.in-Err.ensures.damaged c.in_ok-walk.walk.replay (body_of (first_records g.row.SLOTS c.in_ok-pages.pages) ∷ []) walked at (ap Err refused)))

pub returns-clause-found : goal.returns-clause-found
returns-clause-found g c =
    let first = c.in_ok-pages.ensures.first in
    let v = c.in_ok-walk.walk.replay in
    let read : List (List ℕ) = body_of (first_records g.row.SLOTS c.in_ok-pages.pages) ∷ [] in
    let walked = walked_none g.D.Disk.content g.D.Disk.may_leave g.row.SLOTS read v c.in_ok-walk.walk.marks c.read_first.new.log c.read_first.new.disk
    (unmarked-yet g.row.SLOTS c.in_ok-pages.pages c.in_ok-walk.walk.marks c.in_ok-walk.ensures.none) first.is_read in
    let ends = c.in_default.ensures.done v read walked in
    let images_are = c.in_ok-images.ensures ∙ ap (map (λ left. most_images - left)) c.deref.ensures.value in
    record {
      batches = ends.batches;
      rules = first.rules;
      is_on = ends.is_on;
      whole = some_more (g.D.Disk.content c.walk_log.new.disk c.walk_log.new.log.area) (IsLog most_bytes (body_of (first_records g.row.SLOTS c.in_ok-pages.pages) ∷ bodies_of ends.batches))
          (IsRecordLog c.in_ok-pages.pages ends.batches)
          (λ bytes log. found_log c.in_ok-pages.pages v c.walk_log.new.walk.replay ends.batches bytes first.rules c.in_ok-walk.ensures.waits ends.takes log) ends.whole;
      number = found_number c.in_ok-pages.pages v c.walk_log.new.walk.replay (all_of ends.batches) c.walk_log.new.walk.awaited.items c.in_ok-images.images.items c.in_ok-walk.ensures.waits ends.takes
          c.walk_log.ensures.same images_are;
      counts = some_more (g.D.Disk.content c.walk_log.new.disk c.walk_log.new.log.area) (IsLog most_bytes (body_of (first_records g.row.SLOTS c.in_ok-pages.pages) ∷ bodies_of ends.batches))
          (λ _. (page : ℕ) → page < c.in_ok-pages.pages → slice_index c.in_ok-images.images.items page ≡ count_images page (all_of ends.batches))
          (λ bytes log. found_count c.in_ok-pages.pages v c.walk_log.new.walk.replay ends.batches bytes (body_of (first_records g.row.SLOTS c.in_ok-pages.pages)) c.walk_log.new.walk.awaited.items
          c.in_ok-images.images.items c.in_ok-walk.ensures.waits ends.takes c.walk_log.ensures.same images_are log) ends.whole;
    }
