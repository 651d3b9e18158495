use Rattle.std.proofs.Common.{◌≡◌, Some, Err, sym, ap, subst, ◌∙◌}
use Rattle.disk_model.specs.declared.area.Area.{Area}
use Rattle.disk_model.specs.Areas.{in_area}
use Rattle.opened_images.specs.LogRecords.{IsOfVersion}
use Rattle.store_opening.specs.Replayed.{IsReady, IsReplayed}
use Rattle.store_opening.specs.Store.{Refuses}
use Rattle.store_opening.proofs.FinalLaws.{final_of, none_awaited, either_way}
use Rattle.store_opening.proofs.LookLaws.{and_look, settled_kept}
use Rattle.store_opening.proofs.StoreLaws.{told_of, refuses_replay}
use Rattle.store_opening.proofs.cells.read_in_order.Goals as goal

pub returns-clause-looks : goal.returns-clause-looks
returns-clause-looks g c = and_look g.D.Disk.content c.read_store.ensures.looks c.replay_log.ensures.looks

pub returns-in-Err-replay_log-clause-looks : goal.returns-in-Err-replay_log-clause-looks
returns-in-Err-replay_log-clause-looks g c = and_look g.D.Disk.content c.read_store.ensures.looks c.replay_log.ensures.looks

pub returns-clause-read : goal.returns-clause-read
returns-clause-read g c image reads =
    let told : (a : Area) → g.D.Disk.content c.read_store.new.disk a ≡ Some (in_area image a) = λ a. (c.read_store.ensures.looks.keeps a).same ∙ reads a in
    let found = c.in-Ok.ensures.read image reads in
    let ready = subst (λ (a : Area). IsReady g.row.SLOTS image a c.in-Ok.store.pages.items c.in-Ok.store.images.items) c.in-Ok.ensures.stands.1 found.ready in
    record {
      count = ready.count;
      batches = ready.batches;
      replayed = subst (λ (a : Area). IsReplayed g.row.SLOTS image a ready.count ready.batches c.in-Ok-replay_log.done.replay) (sym c.in-Ok-replay_log.ensures.stands.1)
          (c.in-Ok-replay_log.ensures.replayed image told ready);
      is_on = c.in-Ok-replay_log.ensures.on image told ready;
      marked = c.in-Ok-replay_log.ensures.marked image told ready;
    }

pub returns-in-Err-replay_log-clause-refused : goal.returns-in-Err-replay_log-clause-refused
returns-in-Err-replay_log-clause-refused g c image reads =
    let area = c.in-Ok.store.area in
    let told : (a : Area) → g.D.Disk.content c.read_store.new.disk a ≡ Some (in_area image a) = λ a. (c.read_store.ensures.looks.keeps a).same ∙ reads a in
    let found = c.in-Ok.ensures.read image reads in
    let ready = subst (λ (a : Area). IsReady g.row.SLOTS image a c.in-Ok.store.pages.items c.in-Ok.store.images.items) c.in-Ok.ensures.stands.1 found.ready in
    subst (λ r. Refuses g.row.SLOTS image r) (sym c.refusal_of_log.ensures)
    (refuses_replay g.row.SLOTS image area c.in-Err-replay_log.refusal c.in-Ok.ensures.first.area ready.read.read.named
    (λ number e. told_of (g.D.Disk.content c.read_store.new.disk area) (in_area image area) (IsOfVersion g.row.SLOTS number) (told area) (c.in-Err-replay_log.ensures.version number (ap Err e)))
    (λ at e. c.in-Err-replay_log.ensures.unfit at (ap Err e) image told ready))

pub returns-clause-on : goal.returns-clause-on
returns-clause-on g c = let done = c.in-Ok-replay_log.ensures.done.ends in (_, done.is_on)

pub returns-clause-settled : goal.returns-clause-settled
returns-clause-settled g c = settled_kept g.D.Disk.content c.replay_log.ensures.looks c.in-Ok.ensures.settled

pub returns-in-Err-replay_log-clause-for_good : goal.returns-in-Err-replay_log-clause-for_good
returns-in-Err-replay_log-clause-for_good g c of_store =
    final_of g.D.Disk.content g.D.Disk.may_leave g.row.SLOTS c.args.disk.now c.replay_log.new.disk _ (returns-in-Err-replay_log-clause-looks g c).keeps (settled_kept g.D.Disk.content c.replay_log.ensures.looks c.in-Ok.ensures.settled) (returns-in-Err-replay_log-clause-refused g c)

pub returns-then-not-has_all_images-clause-looks : goal.returns-then-not-has_all_images-clause-looks
returns-then-not-has_all_images-clause-looks g c = and_look g.D.Disk.content c.read_store.ensures.looks c.replay_log.ensures.looks

pub returns-then-not-has_all_images-clause-refused : goal.returns-then-not-has_all_images-clause-refused
returns-then-not-has_all_images-clause-refused g c image reads =
    let told : (a : Area) → g.D.Disk.content c.read_store.new.disk a ≡ Some (in_area image a) = λ a. (c.read_store.ensures.looks.keeps a).same ∙ reads a in
    let found = c.in-Ok.ensures.read image reads in
    let ready = subst (λ (a : Area). IsReady g.row.SLOTS image a c.in-Ok.store.pages.items c.in-Ok.store.images.items) c.in-Ok.ensures.stands.1 found.ready in
    let replayed = c.in-Ok-replay_log.ensures.replayed image told ready in
    absurd
    (either_way c.has_all_images.result (λ there. cc there)
    (λ lacks. c.has_all_images.ensures.unless lacks (none_awaited image c.in-Ok.store.area ready.count ready.batches c.in-Ok-replay_log.done.replay replayed)))

pub returns-then-not-has_all_images-clause-for_good : goal.returns-then-not-has_all_images-clause-for_good
returns-then-not-has_all_images-clause-for_good g c of_store =
    final_of g.D.Disk.content g.D.Disk.may_leave g.row.SLOTS c.args.disk.now c.replay_log.new.disk _ (returns-then-not-has_all_images-clause-looks g c).keeps (settled_kept g.D.Disk.content c.replay_log.ensures.looks c.in-Ok.ensures.settled)
    (returns-then-not-has_all_images-clause-refused g c)
