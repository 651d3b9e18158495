use Rattle.std.proofs.Common.{◌≡◌, ℕ, ◌*◌, ◌∷◌, List, length, Some, ap, ◌∙◌, subst}
use Rattle.disk_model.specs.declared.area.Area.{Area}
use Rattle.disk_model.specs.declared.area.Area.TheVariants.{Pages, Super}
use Rattle.disk_model.specs.Areas.{in_area}
use Rattle.gate_log.specs.Batches.{IsLog, most_bytes}
use Rattle.gate_log.specs.OnDisk.{IsOn, named_by, with_batch}
use Rattle.opened_images.specs.LogRecords.{body_of, bodies_of, first_records}
use Rattle.opened_store.proofs.OpenLaws.{opens-after, opens-itself, within-most, pages-apart, same-pages}
use Rattle.std.specs.Prelude.{◌⊎◌}
use Rattle.std.proofs.Common.{inl, inr, ⊎_elim, ◌<◌, arith}
use Rattle.disk_model.specs.Told.{IsImage}
use Rattle.disk_model.specs.Time.{LeavesOnlyImages}
use Rattle.disk_model.proofs.Moments.{weaken, and_then}
use Rattle.gate_log.specs.OnDisk.{HasEither}
use Rattle.opened_images.specs.Opened.{Opened, OpensTo}
use Rattle.opened_store.proofs.MomentLaws.{both-moments, moment-opens}
use Rattle.std.proofs.Common.{List, sym}
use Rattle.gate_log.specs.Batches.{AreBodies}
use Rattle.page_marks.specs.Marks.{IsMarkedBegun}
use Rattle.opened_store.proofs.BegunLaws.{left-there, reads-left, keeps-then, same-batches, begun-after}
use Rattle.std.proofs.Common.{◌+◌, ◌≤◌, Err}
use Rattle.std.proofs.lemmas.Bool.{cases_lt}
use Rattle.gate_log.specs.State.{batch_length, used}
use Rattle.store_opening.specs.declared.open_refusal.OpenRefusal.TheVariants.{LogFull}
use Rattle.store_opening.specs.Looks.{IsLookedAt}
use Rattle.store_opening.specs.Store.{IsFinal}
use Rattle.store_opening.proofs.FinalLaws.{final_of}
use Rattle.opened_store.proofs.GoOnLaws.{no-disk, late-or, refuses-room, lacks-room, has-room, undo-got}
use Rattle.opened_store.proofs.RoomLaws.{undo-sized-all}
use Rattle.opened_store.proofs.TouchLaws.{force-touches}
use Rattle.opened_store.specs.Touched.{TouchesOnly}
use Rattle.store_opening.specs.Room.{undo_size}
use Rattle.opened_store.proofs.open.open_cells.Goals as goal

pub returns-in-Err-restart-clause-refused : goal.returns-in-Err-restart-clause-refused
returns-in-Err-restart-clause-refused g c =
    λ image reads.
    let f = c.in-Ok.ensures.read image reads in
    c.in-Err-restart.ensures.refused image (record { area = c.in-Ok.found.log.area; count = f.count; batches = f.batches; replayed = f.replayed })

pub returns-in-Ok-force_undo-clause-opens : goal.returns-in-Ok-force_undo-clause-opens
returns-in-Ok-force_undo-clause-opens g c =
    λ image reads.
    let f = c.in-Ok.ensures.read image reads in
    opens-itself g.row.SLOTS image c.in-Ok.found.log.area f.count f.batches c.in-Ok.found.replay c.restart.new.replay c.in-Ok-restart.bytes.items (8 * length c.in-Ok.found.replay.skips) f.replayed c.in-Ok-restart.ensures.rules c.in-Ok-restart.ensures.done

pub returns-in-Ok-force_undo-clause-images : goal.returns-in-Ok-force_undo-clause-images
returns-in-Ok-force_undo-clause-images g c =
    λ image reads other may.
    let f = c.in-Ok.ensures.read image reads in
    let first = body_of (first_records g.row.SLOTS f.count) ∷ bodies_of f.batches in
    let log = c.in-Ok.found.log in
    let new = c.force_undo.new.log in
    let fits : new.durable < most_bytes = (let bounded = c.in-Ok-force_undo.ensures.bounded in omega (arith, bounded)) in
    let bytes = c.in-Ok-restart.bytes.items in
    let on : IsOn g.D.Disk.may_leave new c.force_undo.new.disk (with_batch first bytes) = subst (λ (bs : List ℕ). IsOn g.D.Disk.may_leave new c.force_undo.new.disk (with_batch first bs)) c.deref.ensures.value (c.in-Ok-force_undo.ensures.on first f.is_on) in
    let named : named_by other.super_area ≡ Some log.area = on.named other.super_area (may Super) ∙ ap (λ (a : Area). Some a) c.force_undo.ensures.area in
    let there : IsLog most_bytes (with_batch first bytes) (in_area other log.area) =
    subst (λ (a : Area). IsLog most_bytes (with_batch first bytes) (in_area other a)) c.force_undo.ensures.area (within-most new (with_batch first bytes) (in_area other new.area) fits (on.logs (in_area other new.area) (may new.area))) in
    let kept = c.force_undo.ensures.keeps Pages (pages-apart log.area f.is_on.area) in
    let pages : other.pages ≡ image.pages =
    same-pages (g.D.Disk.content c.read_cells.new.disk Pages) (g.D.Disk.content c.args.disk.now Pages) other.pages image.pages (c.in-Ok.ensures.settled Pages other.pages (kept.no_more other.pages (may Pages))) (reads Pages) (c.read_cells.ensures.looks.keeps Pages).same in
    opens-after g.row.SLOTS image other log.area f.count f.batches c.in-Ok.found.replay c.restart.new.replay bytes (8 * length c.in-Ok.found.replay.skips) f.replayed c.in-Ok-restart.ensures.rules c.in-Ok-restart.ensures.done pages named there

pub returns-in-Err-clause-moments : goal.returns-in-Err-clause-moments
returns-in-Err-clause-moments g c = λ image cells reads opened. weaken (λ other. IsImage g.D.Disk.may_leave c.args.disk.now other ⊎ Opened g.row.SLOTS other (OpensTo cells)) (λ other may. inl may) c.read_cells.ensures.looks.moments

pub returns-in-Err-restart-clause-moments : goal.returns-in-Err-restart-clause-moments
returns-in-Err-restart-clause-moments g c = λ image cells reads opened. weaken (λ other. IsImage g.D.Disk.may_leave c.args.disk.now other ⊎ Opened g.row.SLOTS other (OpensTo cells)) (λ other may. inl may) c.read_cells.ensures.looks.moments

pub returns-in-Ok-force_undo-clause-moments : goal.returns-in-Ok-force_undo-clause-moments
returns-in-Ok-force_undo-clause-moments g c =
    λ image cells reads opened.
    let f = c.in-Ok.ensures.read image reads in
    let first = body_of (first_records g.row.SLOTS f.count) ∷ bodies_of f.batches in
    let v = c.in-Ok.found.replay in
    let w = c.restart.new.replay in
    let log = c.in-Ok.found.log in
    let disk = c.read_cells.new.disk in
    let bytes = c.in-Ok-restart.bytes.items in
    let u = c.in-Ok-restart.ensures.done in
    let forced : LeavesOnlyImages g.D.Disk.moment g.D.Disk.left_since disk c.force_undo.new.disk (λ other. IsImage g.D.Disk.may_leave disk other ⊎ HasEither first (with_batch first bytes) other) =
    subst (λ (bs : List ℕ). LeavesOnlyImages g.D.Disk.moment g.D.Disk.left_since disk c.force_undo.new.disk (λ other. IsImage g.D.Disk.may_leave disk other ⊎ HasEither first (with_batch first bs) other)) c.deref.ensures.value (c.in-Ok-force_undo.ensures.moments first f.is_on) in
    and_then (λ other. IsImage g.D.Disk.may_leave c.args.disk.now other ⊎ Opened g.row.SLOTS other (OpensTo cells)) (λ other may. inl may) (λ other either. either) c.read_cells.ensures.looks.moments
    (both-moments (λ other. IsImage g.D.Disk.may_leave c.args.disk.now other ⊎ Opened g.row.SLOTS other (OpensTo cells))
    (λ other either but. ⊎_elim (λ may. inl (λ area. (c.read_cells.ensures.looks.keeps area).no_more (in_area other area) (may area))) (λ has. inr (moment-opens g.D.Disk.content g.D.Disk.may_leave g.row.SLOTS image cells v w c.in-Ok.found.marks log disk c.args.disk.now bytes (8 * length v.skips) c.requires.count f c.in-Ok-restart.ensures.rules u opened c.in-Ok.ensures.settled
    (c.read_cells.ensures.looks.keeps Pages).same (reads Pages) other has but)) either) forced c.in-Ok-force_undo.ensures.others)

pub returns-in-Err-force_undo-clause-moments : goal.returns-in-Err-force_undo-clause-moments
returns-in-Err-force_undo-clause-moments g c =
    λ image cells reads opened.
    let f = c.in-Ok.ensures.read image reads in
    let first = body_of (first_records g.row.SLOTS f.count) ∷ bodies_of f.batches in
    let v = c.in-Ok.found.replay in
    let w = c.restart.new.replay in
    let log = c.in-Ok.found.log in
    let disk = c.read_cells.new.disk in
    let bytes = c.in-Ok-restart.bytes.items in
    let u = c.in-Ok-restart.ensures.done in
    let forced : LeavesOnlyImages g.D.Disk.moment g.D.Disk.left_since disk c.force_undo.new.disk (λ other. IsImage g.D.Disk.may_leave disk other ⊎ HasEither first (with_batch first bytes) other) =
    subst (λ (bs : List ℕ). LeavesOnlyImages g.D.Disk.moment g.D.Disk.left_since disk c.force_undo.new.disk (λ other. IsImage g.D.Disk.may_leave disk other ⊎ HasEither first (with_batch first bs) other)) c.deref.ensures.value (c.in-Err-force_undo.ensures.moments first f.is_on) in
    and_then (λ other. IsImage g.D.Disk.may_leave c.args.disk.now other ⊎ Opened g.row.SLOTS other (OpensTo cells)) (λ other may. inl may) (λ other either. either) c.read_cells.ensures.looks.moments
    (both-moments (λ other. IsImage g.D.Disk.may_leave c.args.disk.now other ⊎ Opened g.row.SLOTS other (OpensTo cells))
    (λ other either but. ⊎_elim (λ may. inl (λ area. (c.read_cells.ensures.looks.keeps area).no_more (in_area other area) (may area))) (λ has. inr (moment-opens g.D.Disk.content g.D.Disk.may_leave g.row.SLOTS image cells v w c.in-Ok.found.marks log disk c.args.disk.now bytes (8 * length v.skips) c.requires.count f c.in-Ok-restart.ensures.rules u opened c.in-Ok.ensures.settled
    (c.read_cells.ensures.looks.keeps Pages).same (reads Pages) other has but)) either) forced c.in-Err-force_undo.ensures.others)

pub returns-in-Err-clause-unwritten : goal.returns-in-Err-clause-unwritten
returns-in-Err-clause-unwritten g c = inr c.read_cells.ensures.looks

pub returns-in-Err-restart-clause-unwritten : goal.returns-in-Err-restart-clause-unwritten
returns-in-Err-restart-clause-unwritten g c = inr c.read_cells.ensures.looks

pub returns-in-Err-force_undo-clause-unwritten : goal.returns-in-Err-force_undo-clause-unwritten
returns-in-Err-force_undo-clause-unwritten g c =
    late-or c.in-Err-force_undo.refusal c.in-Err-force_undo.ensures.refusals
    (λ no. subst (λ (d : g.row.D.Denot). IsLookedAt g.D.Disk.content g.D.Disk.may_leave g.D.Disk.moment g.D.Disk.left_since c.args.disk.now d) (sym (c.in-Err-force_undo.ensures.untouched no)) c.read_cells.ensures.looks)

pub returns-in-Ok-force_undo-clause-begun : goal.returns-in-Ok-force_undo-clause-begun
returns-in-Ok-force_undo-clause-begun g c =
    let was = c.in-Ok.ensures.on in
    let log = c.in-Ok.found.log in
    let new = c.force_undo.new.log in
    let mid = c.read_cells.new.disk in
    let disk = c.force_undo.new.disk in
    let bytes = c.in-Ok-restart.bytes.items in
    let on : IsOn g.D.Disk.may_leave new disk (with_batch was.0 bytes) = subst (λ (bs : List ℕ). IsOn g.D.Disk.may_leave new disk (with_batch was.0 bs)) c.deref.ensures.value (c.in-Ok-force_undo.ensures.on was.0 was.1) in (
      with_batch was.0 bytes,
      on,
      λ image reads.
          let f = c.in-Ok.ensures.read image reads in
          let first = body_of (first_records g.row.SLOTS f.count) ∷ bodies_of f.batches in
          let there = reads-left g.D.Disk.content g.D.Disk.may_leave g.D.Disk.reads_may_stay mid log.area (in_area image log.area) ((c.read_cells.ensures.looks.keeps log.area).same ∙ reads log.area) in
          let same : first ≡ was.0 = same-batches g.D.Disk.may_leave log mid first was.0 (in_area image log.area) there f.is_on was.1 in
          let kept = (c.force_undo.ensures.keeps Pages (pages-apart log.area f.is_on.area)).same ∙ (c.read_cells.ensures.looks.keeps Pages).same ∙ reads Pages in
          let left = left-there g.D.Disk.content g.D.Disk.told_together g.D.Disk.may_leave g.D.Disk.reads_may_stay disk new.area image.pages kept in
          let formed : AreBodies (with_batch first bytes) = subst (λ (b : List (List ℕ)). AreBodies (with_batch b bytes)) (sym same) (on.logs left.0 left.1).bodies in
          subst (λ (b : List (List ℕ)). IsMarkedBegun g.row.SLOTS (length c.restart.new.replay.skips) image.pages (with_batch b bytes) c.restart.new.replay.cells c.restart.new.marks) same
          (begun-after g.D.Disk.may_leave g.row.SLOTS image c.in-Ok.found.replay c.restart.new.replay c.in-Ok.found.marks c.restart.new.marks log mid bytes (8 * length c.in-Ok.found.replay.skips) f c.in-Ok-restart.ensures.rules c.in-Ok-restart.ensures.marked formed),
    )

pub returns-in-Ok-force_undo-clause-pages : goal.returns-in-Ok-force_undo-clause-pages
returns-in-Ok-force_undo-clause-pages g c =
    keeps-then g.D.Disk.content g.D.Disk.may_leave c.args.disk.now c.read_cells.new.disk c.force_undo.new.disk Pages (c.read_cells.ensures.looks.keeps Pages) (c.force_undo.ensures.keeps Pages (pages-apart c.in-Ok.found.log.area c.in-Ok.ensures.on.1.area))

pub returns-in-Err-force_undo-clause-pages : goal.returns-in-Err-force_undo-clause-pages
returns-in-Err-force_undo-clause-pages g c =
    keeps-then g.D.Disk.content g.D.Disk.may_leave c.args.disk.now c.read_cells.new.disk c.force_undo.new.disk Pages (c.read_cells.ensures.looks.keeps Pages) (c.force_undo.ensures.keeps Pages (pages-apart c.in-Ok.found.log.area c.in-Ok.ensures.on.1.area))

pub returns-in-Ok-force_undo-clause-settled : goal.returns-in-Ok-force_undo-clause-settled
returns-in-Ok-force_undo-clause-settled g c =
    let kept = c.force_undo.ensures.keeps Pages (pages-apart c.in-Ok.found.log.area c.in-Ok.ensures.on.1.area) in
    λ bytes may. kept.same ∙ c.in-Ok.ensures.settled Pages bytes (kept.no_more bytes may)

pub returns-in-Err-clause-only_looks : goal.returns-in-Err-clause-only_looks
returns-in-Err-clause-only_looks g c = λ image reads none. c.read_cells.ensures.looks

pub returns-in-Err-restart-clause-only_looks : goal.returns-in-Err-restart-clause-only_looks
returns-in-Err-restart-clause-only_looks g c = λ image reads none. c.read_cells.ensures.looks

pub returns-in-Ok-force_undo-clause-only_looks : goal.returns-in-Ok-force_undo-clause-only_looks
returns-in-Ok-force_undo-clause-only_looks g c =
    λ image reads none.
    let f = c.in-Ok.ensures.read image reads in
    absurd
    (none c.restart.new.replay.cells
    (opens-itself g.row.SLOTS image c.in-Ok.found.log.area f.count f.batches c.in-Ok.found.replay c.restart.new.replay c.in-Ok-restart.bytes.items (8 * length c.in-Ok.found.replay.skips) f.replayed c.in-Ok-restart.ensures.rules c.in-Ok-restart.ensures.done))

pub returns-in-Err-force_undo-clause-only_looks : goal.returns-in-Err-force_undo-clause-only_looks
returns-in-Err-force_undo-clause-only_looks g c =
    λ image reads none.
    let f = c.in-Ok.ensures.read image reads in
    absurd
    (none c.restart.new.replay.cells
    (opens-itself g.row.SLOTS image c.in-Ok.found.log.area f.count f.batches c.in-Ok.found.replay c.restart.new.replay c.in-Ok-restart.bytes.items (8 * length c.in-Ok.found.replay.skips) f.replayed c.in-Ok-restart.ensures.rules c.in-Ok-restart.ensures.done))

pub returns-in-Err-restart-clause-for_good : goal.returns-in-Err-restart-clause-for_good
returns-in-Err-restart-clause-for_good g c of_store =
    final_of g.D.Disk.content g.D.Disk.may_leave g.row.SLOTS c.args.disk.now c.read_cells.new.disk _ c.read_cells.ensures.looks.keeps c.in-Ok.ensures.settled (returns-in-Err-restart-clause-refused g c)

pub returns-in-Err-force_undo-clause-refused : goal.returns-in-Err-force_undo-clause-refused
returns-in-Err-force_undo-clause-refused g c =
    λ image reads.
    let f = c.in-Ok.ensures.read image reads in
    let past : c.in-Err-force_undo.refusal ≡ LogFull → most_bytes < used c.in-Ok.found.log + batch_length c.in-Ok-restart.bytes.items =
    λ is. subst (λ (bs : List ℕ). most_bytes < used c.in-Ok.found.log + batch_length bs) c.deref.ensures.value (c.in-Err-force_undo.ensures.full.0 (ap Err is)) in
    refuses-room g.row.SLOTS image c.in-Err-force_undo.refusal c.in-Err-force_undo.ensures.refusals
    (λ is. lacks-room g.D.Disk.may_leave g.row.SLOTS image c.in-Ok.found.replay c.restart.new.replay c.in-Ok.found.marks c.in-Ok.found.log c.read_cells.new.disk c.in-Ok-restart.bytes.items (8 * length c.in-Ok.found.replay.skips) f
    c.in-Ok-restart.ensures.rules c.in-Ok-restart.ensures.done c.in-Ok.ensures.stands.1 (past is))

pub returns-in-Err-force_undo-clause-for_good : goal.returns-in-Err-force_undo-clause-for_good
returns-in-Err-force_undo-clause-for_good g c of_store =
    subst (λ (d : g.row.D.Denot). IsFinal g.D.Disk.content g.D.Disk.may_leave g.row.SLOTS d c.in-Err-force_undo.refusal) (sym (c.in-Err-force_undo.ensures.untouched (no-disk c.in-Err-force_undo.refusal of_store)))
    (final_of g.D.Disk.content g.D.Disk.may_leave g.row.SLOTS c.args.disk.now c.read_cells.new.disk c.in-Err-force_undo.refusal c.read_cells.ensures.looks.keeps c.in-Ok.ensures.settled (returns-in-Err-force_undo-clause-refused g c))

pub returns-in-Ok-force_undo-clause-room : goal.returns-in-Ok-force_undo-clause-room
returns-in-Ok-force_undo-clause-room g c =
    λ image reads lacks.
    let f = c.in-Ok.ensures.read image reads in
    let bytes = c.in-Ok-restart.bytes.items in
    let fits : used c.in-Ok.found.log + batch_length bytes ≤ most_bytes =
    ⊎_elim (λ past. absurd (let full = c.in-Ok-force_undo.ensures.full.1 (subst (λ (bs : List ℕ). most_bytes < used c.in-Ok.found.log + batch_length bs) (sym c.deref.ensures.value) past) in cc (full))) (λ fits. fits)
    (cases_lt most_bytes (used c.in-Ok.found.log + batch_length bytes)) in
    has-room g.D.Disk.may_leave g.row.SLOTS image c.in-Ok.found.replay c.restart.new.replay c.in-Ok.found.marks c.in-Ok.found.log c.read_cells.new.disk bytes (8 * length c.in-Ok.found.replay.skips) f
    c.in-Ok-restart.ensures.rules c.in-Ok-restart.ensures.done c.in-Ok.ensures.stands.1 c.requires.count fits lacks

pub returns-in-Ok-force_undo-clause-undo : goal.returns-in-Ok-force_undo-clause-undo
returns-in-Ok-force_undo-clause-undo g c =
    let log = c.in-Ok.found.log in
    undo-got g.D.Disk.content g.row.SLOTS c.args.disk.now c.read_cells.new.disk c.force_undo.new.disk log c.force_undo.new.log c.deref.result.now c.in-Ok-restart.bytes.items c.force_undo.ensures.area c.in-Ok-force_undo.ensures.durable
    c.deref.ensures.value (c.read_cells.ensures.looks.keeps log.area).same c.in-Ok-force_undo.ensures.bytes
    (λ image reads.
    let f = c.in-Ok.ensures.read image reads in
    let u = c.in-Ok-restart.ensures.done in
    let v = c.in-Ok.found.replay in
    (f.count, f.batches, f.replayed.read.pages_read.read.log, f.is_on.commit_byte, undo-sized-all v c.restart.new.replay u.records c.in-Ok-restart.bytes.items u.finishes u.none u.are ∙ ap undo_size f.replayed.unended))

pub returns-in-Ok-force_undo-clause-touches : goal.returns-in-Ok-force_undo-clause-touches
returns-in-Ok-force_undo-clause-touches g c =
    let on = c.in-Ok.ensures.on in
    subst (λ (a : Area). TouchesOnly g.D.Disk.content g.D.Disk.may_leave g.D.Disk.moment g.D.Disk.left_since c.args.disk.now c.force_undo.new.disk a) (sym c.force_undo.ensures.area)
    (force-touches g.D.Disk.content g.D.Disk.may_leave g.D.Disk.reads_may_stay c.args.disk.now c.read_cells.new.disk c.force_undo.new.disk c.in-Ok.found.log on.0 c.read_cells.ensures.looks on.1 c.force_undo.ensures.keeps c.force_undo.ensures.others)

pub returns-in-Err-force_undo-clause-touches_refused : goal.returns-in-Err-force_undo-clause-touches_refused
returns-in-Err-force_undo-clause-touches_refused g c =
    let on = c.in-Ok.ensures.on in
    inr (
      c.in-Ok.found.log.area,
      force-touches g.D.Disk.content g.D.Disk.may_leave g.D.Disk.reads_may_stay c.args.disk.now c.read_cells.new.disk c.force_undo.new.disk c.in-Ok.found.log on.0 c.read_cells.ensures.looks on.1 c.force_undo.ensures.keeps c.force_undo.ensures.others,
    )

pub returns-in-Err-clause-touches_refused : goal.returns-in-Err-clause-touches_refused
returns-in-Err-clause-touches_refused g c = inl c.read_cells.ensures.looks

pub returns-in-Err-restart-clause-touches_refused : goal.returns-in-Err-restart-clause-touches_refused
returns-in-Err-restart-clause-touches_refused g c = inl c.read_cells.ensures.looks
