use Rattle.std.proofs.Common.{◌≡◌, ◌↔◌, ◌∙◌, inl, inr, Option, Some, sym, ap, subst, rules}
use Rattle.std.specs.Prelude.{IsSome}
use Rattle.disk_model.specs.Time.{LeavesOnlyImages}
use Rattle.disk_model.proofs.Moments.{weaken}
use Rattle.core_store.specs.Frames.{AllAgree}
use Rattle.core_store.specs.JournalView.{JournalView, cells_of}
use Rattle.logged_journal.specs.View.{LoggedView}
use Rattle.logged_journal.specs.Records.{MayHaveAll}
use Rattle.logged_journal.specs.declared.failed.FailedCall.{FailedCall}
use Rattle.logged_journal.specs.declared.upkeep.Upkeep.{Upkeep}
use Rattle.logged_journal.specs.declared.upkeep.Upkeep.TheVariants.{LogFull}
use Rattle.logged_journal.specs.Upkeep.{IsPastFormat}
use Rattle.logged_journal.specs.Checkpoints.{ForcesImages}
use Rattle.logged_journal.proofs.OldLogs.{only-memory, has-room}
use Rattle.logged_journal.proofs.NamedAreas.{names-still, names-after}
use Rattle.logged_journal.proofs.RoomTaken.{room-entry, room-have}
use Rattle.logged_journal.proofs.UpkeepOpens.{still-upkeep, still-opened, upkeep-opens}
use Rattle.logged_journal.proofs.logged.LoggedJournal.turn.Given.{Over}
use Rattle.logged_journal.proofs.logged.LoggedJournal.turn.Goals as goal

pub returns-in-Some-clause-moments : goal.returns-in-Some-clause-moments
returns-in-Some-clause-moments g c =
    still-upkeep g.D.Disk.may_leave g.D.Disk.moment g.D.Disk.left_since g.D.Disk.only_now c.args.self.now c.refuse_turn.new.self.disk c.refuse_turn.ensures.untouched.disk c.know_images.ensures.images

pub returns-in-Some-clause-opens : goal.returns-in-Some-clause-opens
returns-in-Some-clause-opens g c =
    still-opened g.D.Disk.may_leave g.D.Disk.moment g.D.Disk.left_since g.D.Disk.only_now g.row.SLOTS c.args.self.now c.refuse_turn.new.self.disk c.refuse_turn.ensures.untouched.disk c.know_images.ensures.images
    c.know_images.ensures.left

pub turn_idle-requires-after_bounds : goal.turn_idle-requires-after_bounds
turn_idle-requires-after_bounds g c κs within =
    let free = c.refuse_turn.ensures.free c.in-None.is in
    let takes = free.2 in
    let journal = ap (λ (w : LoggedView g.row.D.Denot). w.journal) takes in (
      search rules,
      (
        search rules,
        (
          ap (λ (w : LoggedView g.row.D.Denot). w.failed) takes ∙ free.0,
          (
            c.requires.pages ∙ ap (λ (j : JournalView). j.history.ids) (sym journal),
            (
              subst (λ (j : JournalView). AllAgree (cells_of j) c.args.frames.now) (sym journal) c.requires.agree,
              (ap (λ (j : JournalView). j.reserved) journal, rw journal free.1),
            ),
          ),
        ),
      ),
    )

-- at each moment the disk leaves what it may, as the journal was before room was taken
moments : (g : Over) (c : goal.After-turn_idle g) → LeavesOnlyImages g.D.Disk.moment g.D.Disk.left_since c.args.self.now.disk c.turn_idle.new.self.disk (MayHaveAll c.args.self.now)
moments g c =
    let v = c.args.self.now in
    let w = c.refuse_turn.new.self in
    let takes = room-entry v w (c.refuse_turn.ensures.free c.in-None.is).2 in
    subst (λ (d : g.row.D.Denot). LeavesOnlyImages g.D.Disk.moment g.D.Disk.left_since d c.turn_idle.new.self.disk (MayHaveAll v)) c.refuse_turn.ensures.untouched.disk
    (weaken (MayHaveAll v) (λ image has. room-have v w image takes has) c.turn_idle.ensures.moments)

pub returns-in-None-clause-moments : goal.returns-in-None-clause-moments
returns-in-None-clause-moments g c = moments g c

pub returns-in-None-clause-opens : goal.returns-in-None-clause-opens
returns-in-None-clause-opens g c =
    let v = c.args.self.now in
    upkeep-opens g.D.Disk.moment g.D.Disk.left_since g.row.SLOTS v v.disk c.turn_idle.new.self.disk (c.refuse_turn.ensures.free c.in-None.is).0 c.know_images.ensures.left c.know_images.ensures.all (moments g c)

pub returns-in-None-clause-old_log : goal.returns-in-None-clause-old_log
returns-in-None-clause-old_log g c is =
    subst (λ (u : LoggedView g.row.D.Denot). ForcesImages g.D.Disk.content c.args.frames.now u c.turn_idle.new.self) (c.refuse_turn.ensures.free c.in-None.is).2 (c.turn_idle.ensures.old_log is)

-- that the log would be too long is seen of the journal as it was before room was taken
too-long : (g : Over) (c : goal.After-turn_idle g) → (c.turn_idle.result ≡ LogFull) ↔ IsPastFormat g.row.SLOTS c.args.self.now
too-long g c = subst (λ (u : LoggedView g.row.D.Denot). (c.turn_idle.result ≡ LogFull) ↔ IsPastFormat g.row.SLOTS u) (c.refuse_turn.ensures.free c.in-None.is).2 c.turn_idle.ensures.too_long

pub returns-in-None-clause-too_long : goal.returns-in-None-clause-too_long
returns-in-None-clause-too_long g c is =
    let free = c.refuse_turn.ensures.free c.in-None.is in
    record { running = free.0; room = has-room c.refuse_turn.result _ _ c.refuse_turn.ensures.full c.in-None.is free.0; idle = free.1; past = (too-long g c).0 is }

pub returns-in-None-clause-only_too_long : goal.returns-in-None-clause-only_too_long
returns-in-None-clause-only_too_long g c past = inl ((too-long g c).1 past.past)

pub returns-in-Some-clause-only_too_long : goal.returns-in-Some-clause-only_too_long
returns-in-Some-clause-only_too_long g c past =
    let e = c.refuse_turn.ensures in
    let is = c.in-Some.is in
    inr (only-memory c.in-Some.upkeep (λ f. e.never.0 (is ∙ ap (λ (u : Upkeep). Some u) f)) (λ f. e.never.1 (is ∙ ap (λ (u : Upkeep). Some u) f)) (λ f. e.never.2 (is ∙ ap (λ (u : Upkeep). Some u) f))
    (λ f. let full = (e.full.0 (is ∙ ap (λ (u : Upkeep). Some u) f)).1 in let room = past.room in let clash = sym full ∙ room in cc (clash))
    (λ n f. let some = e.only_stopped n (is ∙ ap (λ (u : Upkeep). Some u) f) in let running = past.running in let clash = subst (λ (o : Option FailedCall). IsSome o) running some in cc (clash))
    (λ n f. let least = e.only_busy n (is ∙ ap (λ (u : Upkeep). Some u) f) in let idle = past.idle in let clash = sym idle ∙ least in cc (clash)))

pub returns-in-Some-clause-super_area : goal.returns-in-Some-clause-super_area
returns-in-Some-clause-super_area g c =
    let e = c.refuse_turn.ensures in
    names-still g.D.Disk.content g.D.Disk.may_leave c.args.self.now c.refuse_turn.new.self c.in-Some.upkeep e.untouched.disk (λ f. e.never.0 (c.in-Some.is ∙ ap (λ (u : Upkeep). Some u) f))

pub returns-in-None-clause-super_area : goal.returns-in-None-clause-super_area
returns-in-None-clause-super_area g c =
    let v = c.args.self.now in
    let w = c.refuse_turn.new.self in
    names-after g.D.Disk.content g.D.Disk.may_leave v w c.turn_idle.new.self c.turn_idle.result (room-entry v w (c.refuse_turn.ensures.free c.in-None.is).2) c.turn_idle.ensures.super_area
