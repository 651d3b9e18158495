use Rattle.std.proofs.Common.{◌≡◌, ℕ, List, [], ◌∷◌, length, Some, ap, subst, sym, ◌∙◌, rules}
use Rattle.std.specs.Prelude.{replicate}
use Rattle.std.proofs.lemmas.List.{length-replicate}
use Rattle.disk_model.specs.declared.area.Area.{Area}
use Rattle.disk_model.specs.declared.area.Area.TheVariants.{Pages}
use Rattle.disk_model.specs.Areas.{in_area}
use Rattle.gate_log.specs.Batches.{IsLog, most_bytes}
use Rattle.gate_log.specs.State.{LogState}
use Rattle.log_replay.specs.Replays.{Replaying}
use Rattle.opened_images.specs.LogRecords.{body_of, bodies_of, all_of, first_records}
use Rattle.store_opening.specs.Loaded.{AreLoaded}
use Rattle.store_opening.specs.Replayed.{IsReplayed}
use Rattle.store_opening.specs.Walks.{Takes}
use Rattle.store_opening.proofs.LookLaws.{and_look}
use Rattle.store_opening.proofs.WalkLaws.{walked_none, unmarked-yet}
use Rattle.store_opening.proofs.StoreLaws.{told_of}
use Rattle.store_opening.proofs.OnceLaws.{once_replayed, read_still}
use Rattle.store_opening.proofs.at_once.replay_in_place.Goals as goal

pub returns-clause-looks : goal.returns-clause-looks
returns-clause-looks g c = and_look g.D.Disk.content (and_look g.D.Disk.content c.read_first.ensures.looks c.load_pages.ensures.looks) c.walk_log.ensures.looks

pub returns-then-not-has_all_images-clause-looks : goal.returns-then-not-has_all_images-clause-looks
returns-then-not-has_all_images-clause-looks g c = and_look g.D.Disk.content (and_look g.D.Disk.content c.read_first.ensures.looks c.load_pages.ensures.looks) c.walk_log.ensures.looks

pub returns-in-Err-walk_log-clause-looks : goal.returns-in-Err-walk_log-clause-looks
returns-in-Err-walk_log-clause-looks g c = and_look g.D.Disk.content (and_look g.D.Disk.content c.read_first.ensures.looks c.load_pages.ensures.looks) c.walk_log.ensures.looks

pub returns-in-Err-load_pages-clause-looks : goal.returns-in-Err-load_pages-clause-looks
returns-in-Err-load_pages-clause-looks g c = and_look g.D.Disk.content c.read_first.ensures.looks c.load_pages.ensures.looks

pub returns-clause-read : goal.returns-clause-read
returns-clause-read g c image reads naming =
    let count = c.in-Ok.count in
    let first = c.in-Ok.ensures.first in
    let pages = c.in-Ok-load_pages.pages.items in
    let images = c.in_ok-images.images.items in
    let read : List (List ℕ) = body_of (first_records g.row.SLOTS count) ∷ [] in
    let is_read = read_still g.D.Disk.content g.D.Disk.may_leave c.read_first.new.log c.read_first.new.disk c.load_pages.new.disk read c.load_pages.ensures.looks.keeps first.is_read in
    let walked = walked_none g.D.Disk.content g.D.Disk.may_leave g.row.SLOTS read c.over.result c.in_ok-marks.marks c.read_first.new.log c.load_pages.new.disk
    (unmarked-yet g.row.SLOTS count c.in_ok-marks.marks c.in_ok-marks.ensures.none) is_read in
    let done = c.in_default.ensures.done c.over.result read walked in
    let area_is : c.walk_log.new.log.area ≡ c.args.area = c.walk_log.ensures.area ∙ c.read_first.ensures.area ∙ ap (λ (s : LogState). s.area) c.start-log.ensures in
    let same : g.D.Disk.content c.walk_log.new.disk c.walk_log.new.log.area ≡ Some (in_area image c.args.area) =
    ap (λ (a : Area). g.D.Disk.content c.walk_log.new.disk a) area_is ∙ (c.walk_log.ensures.looks.keeps c.args.area).same ∙ (c.load_pages.ensures.looks.keeps c.args.area).same
    ∙ (c.read_first.ensures.looks.keeps c.args.area).same ∙ reads c.args.area in
    let zeros : images ≡ replicate count 0 = search rules in
    let given : c.deref.result.now ≡ images = c.deref.ensures.value in
    let loaded = told_of (g.D.Disk.content c.read_first.new.disk Pages) image.pages (λ area. AreLoaded g.row.SLOTS c.deref.result.now (length c.deref.result.now) area pages)
    ((c.read_first.ensures.looks.keeps Pages).same ∙ reads Pages) c.in-Ok-load_pages.ensures.loaded in
    let of_images = subst (λ (l : List ℕ). AreLoaded g.row.SLOTS l (length l) image.pages pages) given loaded in
    let long : length images ≡ count = ap length zeros ∙ length-replicate count 0 in
    let of_count = subst (λ (n : ℕ). AreLoaded g.row.SLOTS images n image.pages pages) long of_images in
    let number : length pages ≡ count = c.in-Ok-load_pages.ensures.number ∙ ap length given ∙ long in
    record {
      count = count;
      batches = done.batches;
      replayed = subst (λ (a : Area). IsReplayed g.row.SLOTS image a count done.batches c.walk_log.new.walk.replay) (sym area_is)
          (once_replayed c.requires.count image c.args.area count pages images done.batches c.walk_log.new.walk.replay first.rules zeros number naming of_count
          (subst (λ (v : Replaying). Takes (all_of done.batches) v c.walk_log.new.walk.replay) c.over.ensures done.takes)
          (told_of (g.D.Disk.content c.walk_log.new.disk c.walk_log.new.log.area) (in_area image c.args.area) (IsLog most_bytes (body_of (first_records g.row.SLOTS count) ∷ bodies_of done.batches)) same done.whole));
      is_on = done.is_on;
      marked = done.marked;
    }

pub returns-clause-on : goal.returns-clause-on
returns-clause-on g c =
    let count = c.in-Ok.count in
    let first = c.in-Ok.ensures.first in
    let read : List (List ℕ) = body_of (first_records g.row.SLOTS count) ∷ [] in
    let is_read = read_still g.D.Disk.content g.D.Disk.may_leave c.read_first.new.log c.read_first.new.disk c.load_pages.new.disk read c.load_pages.ensures.looks.keeps first.is_read in
    let walked = walked_none g.D.Disk.content g.D.Disk.may_leave g.row.SLOTS read c.over.result c.in_ok-marks.marks c.read_first.new.log c.load_pages.new.disk
    (unmarked-yet g.row.SLOTS count c.in_ok-marks.marks c.in_ok-marks.ensures.none) is_read in
    let done = c.in_default.ensures.done c.over.result read walked in
    (_, done.is_on)
