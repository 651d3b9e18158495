use Rattle.std.proofs.Common.{◌≡◌, ◌∙◌, ⊎_elim, ◌+◌, ℕ, Bool, true, false, Result, Ok, Err, refl, sym, ap, subst, arith}
use Rattle.std.specs.Prelude.{OnOk, IsErrOf}
use Rattle.disk_model.specs.Time.{LeavesOnlyImages}
use Rattle.disk_model.proofs.Moments.{weaken}
use Rattle.core_store.specs.declared.room_refusal.RoomRefusal.{RoomRefusal}
use Rattle.core_store.specs.declared.room_refusal.RoomRefusal.TheVariants.{Memory, TraceFull}
use Rattle.core_store.specs.Limited.{is_past_limit}
use Rattle.logged_journal.specs.View.{LoggedView, IsPast, image_need}
use Rattle.logged_journal.specs.Records.{MayHaveAll}
use Rattle.logged_journal.proofs.Areas.{cleans-still, cleans-behind}
use Rattle.logged_journal.proofs.RoomTaken.{room-entry, room-log, room-have}
use Rattle.logged_journal.proofs.UpkeepOpens.{still-upkeep, still-opened, upkeep-opens}
use Rattle.logged_journal.proofs.logged.LoggedJournal.clean.Goals as goal

by-ok : {T E : Type 0} (r : Result T E) (x : T) (P : Type 0) → r ≡ Ok x → OnOk r P → P
by-ok (Ok y) x P is has = has
by-ok (Err e) x P is has = absurd (cc (is))

-- where memory is out the history isn't full
not-full : (r : Result (Unit {0}) RoomRefusal) (b : Bool) → r ≡ Err Memory → (b ≡ true → IsErrOf r TraceFull) → b ≡ false
not-full r false is full = refl
not-full r true is full = let clash = sym is ∙ full refl in absurd (cc (clash))

pub returns-in-Some-clause-moments : goal.returns-in-Some-clause-moments
returns-in-Some-clause-moments g c = still-upkeep g.D.Disk.may_leave g.D.Disk.moment g.D.Disk.left_since g.D.Disk.only_now c.args.self.now c.args.self.now.disk refl c.know_images.ensures.images

pub returns-in-Some-clause-opens : goal.returns-in-Some-clause-opens
returns-in-Some-clause-opens g c =
    still-opened g.D.Disk.may_leave g.D.Disk.moment g.D.Disk.left_since g.D.Disk.only_now g.row.SLOTS c.args.self.now c.args.self.now.disk refl c.know_images.ensures.images c.know_images.ensures.left

pub returns-in-Err-TraceFull-clause-moments : goal.returns-in-Err-TraceFull-clause-moments
returns-in-Err-TraceFull-clause-moments g c =
    still-upkeep g.D.Disk.may_leave g.D.Disk.moment g.D.Disk.left_since g.D.Disk.only_now c.args.self.now c.reserve_entry.new.self.disk (ap (λ (w : LoggedView g.row.D.Denot). w.disk) c.reserve_entry.ensures.same) c.know_images.ensures.images

pub returns-in-Err-TraceFull-clause-opens : goal.returns-in-Err-TraceFull-clause-opens
returns-in-Err-TraceFull-clause-opens g c =
    still-opened g.D.Disk.may_leave g.D.Disk.moment g.D.Disk.left_since g.D.Disk.only_now g.row.SLOTS c.args.self.now c.reserve_entry.new.self.disk (ap (λ (w : LoggedView g.row.D.Denot). w.disk) c.reserve_entry.ensures.same)
    c.know_images.ensures.images c.know_images.ensures.left

pub returns-in-Err-Memory-clause-log_full : goal.returns-in-Err-Memory-clause-log_full
returns-in-Err-Memory-clause-log_full g c =
    let is : c.reserve_entry.result ≡ Err Memory =
    c.in-Err-Memory.is ∙ ap (λ (x : RoomRefusal). let r : Result (Unit {0}) RoomRefusal = Err x in r) c.in-Err-Memory.field-0-is in
    let same = c.reserve_entry.ensures.memory is in
    let need : c.bytes_of_image-image.result + 5 ≡ image_need g.row.SLOTS = let e = c.bytes_of_image-image.ensures in omega (arith, e) in
    let full = c.full_or_memory.ensures.full in (
      (λ told. record {
        running = sym c.failed.ensures.failed ∙ c.in_default.is;
        room = not-full c.reserve_entry.result (is_past_limit c.args.self.now.journal 1) is c.reserve_entry.ensures.full.1;
        past = subst (λ (n : ℕ). IsPast c.args.self.now n) need (subst (λ (w : LoggedView g.row.D.Denot). IsPast w (c.bytes_of_image-image.result + 5)) same (full.0 told));
      }),
      (λ past. full.1 (subst (λ (w : LoggedView g.row.D.Denot). IsPast w (c.bytes_of_image-image.result + 5)) (sym same) (subst (λ (n : ℕ). IsPast c.args.self.now n) (sym need) past.past))),
    )

pub returns-in-Err-Memory-clause-moments : goal.returns-in-Err-Memory-clause-moments
returns-in-Err-Memory-clause-moments g c =
    still-upkeep g.D.Disk.may_leave g.D.Disk.moment g.D.Disk.left_since g.D.Disk.only_now c.args.self.now c.full_or_memory.new.self.disk
    (ap (λ (w : LoggedView g.row.D.Denot). w.disk) c.full_or_memory.ensures.same ∙ ap (λ (w : LoggedView g.row.D.Denot). w.disk) c.reserve_entry.ensures.same) c.know_images.ensures.images

pub returns-in-Err-Memory-clause-opens : goal.returns-in-Err-Memory-clause-opens
returns-in-Err-Memory-clause-opens g c =
    still-opened g.D.Disk.may_leave g.D.Disk.moment g.D.Disk.left_since g.D.Disk.only_now g.row.SLOTS c.args.self.now c.full_or_memory.new.self.disk
    (ap (λ (w : LoggedView g.row.D.Denot). w.disk) c.full_or_memory.ensures.same ∙ ap (λ (w : LoggedView g.row.D.Denot). w.disk) c.reserve_entry.ensures.same) c.know_images.ensures.images c.know_images.ensures.left

pub returns-then-is_past-clause-moments : goal.returns-then-is_past-clause-moments
returns-then-is_past-clause-moments g c =
    still-upkeep g.D.Disk.may_leave g.D.Disk.moment g.D.Disk.left_since g.D.Disk.only_now c.args.self.now c.mark_full.new.self.disk
    (ap (λ (w : LoggedView g.row.D.Denot). w.disk) c.mark_full.ensures.marked ∙ ap (λ (w : LoggedView g.row.D.Denot). w.disk) c.reserve_entry.ensures.same) c.know_images.ensures.images

pub returns-then-is_past-clause-opens : goal.returns-then-is_past-clause-opens
returns-then-is_past-clause-opens g c =
    still-opened g.D.Disk.may_leave g.D.Disk.moment g.D.Disk.left_since g.D.Disk.only_now g.row.SLOTS c.args.self.now c.mark_full.new.self.disk
    (ap (λ (w : LoggedView g.row.D.Denot). w.disk) c.mark_full.ensures.marked ∙ ap (λ (w : LoggedView g.row.D.Denot). w.disk) c.reserve_entry.ensures.same) c.know_images.ensures.images c.know_images.ensures.left

pub returns-then-is_err-clause-moments : goal.returns-then-is_err-clause-moments
returns-then-is_err-clause-moments g c =
    still-upkeep g.D.Disk.may_leave g.D.Disk.moment g.D.Disk.left_since g.D.Disk.only_now c.args.self.now c.take_room.new.self.disk
    (ap (λ (w : LoggedView g.row.D.Denot). w.disk) c.take_room.ensures.same ∙ ap (λ (w : LoggedView g.row.D.Denot). w.disk) c.reserve_entry.ensures.same) c.know_images.ensures.images

pub returns-then-is_err-clause-opens : goal.returns-then-is_err-clause-opens
returns-then-is_err-clause-opens g c =
    still-opened g.D.Disk.may_leave g.D.Disk.moment g.D.Disk.left_since g.D.Disk.only_now g.row.SLOTS c.args.self.now c.take_room.new.self.disk
    (ap (λ (w : LoggedView g.row.D.Denot). w.disk) c.take_room.ensures.same ∙ ap (λ (w : LoggedView g.row.D.Denot). w.disk) c.reserve_entry.ensures.same) c.know_images.ensures.images c.know_images.ensures.left

pub returns-clause-moments : goal.returns-clause-moments
returns-clause-moments g c =
    let v = c.args.self.now in
    let w = c.take_room.new.self in
    let takes = room-log v c.reserve_entry.new.self w (room-entry v c.reserve_entry.new.self (by-ok c.reserve_entry.result _ _ c.in-Ok.is c.reserve_entry.ensures.reserved)) c.take_room.ensures.same in
    subst (λ (d : g.row.D.Denot). LeavesOnlyImages g.D.Disk.moment g.D.Disk.left_since d c.clean_in_room.new.self.disk (MayHaveAll v)) (ap (λ (u : LoggedView g.row.D.Denot). u.disk) takes)
    (weaken (MayHaveAll v) (λ image has. room-have v w image takes has) c.clean_in_room.ensures.moments)

pub returns-clause-opens : goal.returns-clause-opens
returns-clause-opens g c =
    let v = c.args.self.now in
    let w = c.take_room.new.self in
    let takes = room-log v c.reserve_entry.new.self w (room-entry v c.reserve_entry.new.self (by-ok c.reserve_entry.result _ _ c.in-Ok.is c.reserve_entry.ensures.reserved)) c.take_room.ensures.same in
    let moments = subst (λ (d : g.row.D.Denot). LeavesOnlyImages g.D.Disk.moment g.D.Disk.left_since d c.clean_in_room.new.self.disk (MayHaveAll v)) (ap (λ (u : LoggedView g.row.D.Denot). u.disk) takes)
    (weaken (MayHaveAll v) (λ image has. room-have v w image takes has) c.clean_in_room.ensures.moments) in
    upkeep-opens g.D.Disk.moment g.D.Disk.left_since g.row.SLOTS v v.disk c.clean_in_room.new.self.disk (sym c.failed.ensures.failed ∙ c.in_default.is) c.know_images.ensures.left c.know_images.ensures.all moments

-- ---- what the areas have

pub returns-in-Some-clause-areas : goal.returns-in-Some-clause-areas
returns-in-Some-clause-areas g c =
    cleans-still g.D.Disk.content g.D.Disk.may_leave c.args.self.now c.args.self.now c.args.page c.args.frame.now.page _ refl (λ done. absurd (cc (done)))

pub returns-in-Err-TraceFull-clause-areas : goal.returns-in-Err-TraceFull-clause-areas
returns-in-Err-TraceFull-clause-areas g c =
    cleans-still g.D.Disk.content g.D.Disk.may_leave c.args.self.now c.reserve_entry.new.self c.args.page c.args.frame.now.page _ (ap (λ (w : LoggedView g.row.D.Denot). w.disk) c.reserve_entry.ensures.same) (λ done. absurd (cc (done)))

pub returns-in-Err-Memory-clause-areas : goal.returns-in-Err-Memory-clause-areas
returns-in-Err-Memory-clause-areas g c =
    cleans-still g.D.Disk.content g.D.Disk.may_leave c.args.self.now c.full_or_memory.new.self c.args.page c.args.frame.now.page c.full_or_memory.result (ap (λ (w : LoggedView g.row.D.Denot). w.disk) c.full_or_memory.ensures.same ∙ ap (λ (w : LoggedView g.row.D.Denot). w.disk) c.reserve_entry.ensures.same) (λ done. ⊎_elim (λ full. let e = sym done ∙ full in absurd (cc (e))) (λ memory. let e = sym done ∙ memory in absurd (cc (e))) c.full_or_memory.ensures.answers)

pub returns-then-is_past-clause-areas : goal.returns-then-is_past-clause-areas
returns-then-is_past-clause-areas g c =
    cleans-still g.D.Disk.content g.D.Disk.may_leave c.args.self.now c.mark_full.new.self c.args.page c.args.frame.now.page _ (ap (λ (w : LoggedView g.row.D.Denot). w.disk) c.mark_full.ensures.marked ∙ ap (λ (w : LoggedView g.row.D.Denot). w.disk) c.reserve_entry.ensures.same) (λ done. absurd (cc (done)))

pub returns-then-is_err-clause-areas : goal.returns-then-is_err-clause-areas
returns-then-is_err-clause-areas g c =
    cleans-still g.D.Disk.content g.D.Disk.may_leave c.args.self.now c.take_room.new.self c.args.page c.args.frame.now.page _ (ap (λ (w : LoggedView g.row.D.Denot). w.disk) c.take_room.ensures.same ∙ ap (λ (w : LoggedView g.row.D.Denot). w.disk) c.reserve_entry.ensures.same) (λ done. absurd (cc (done)))

pub returns-clause-areas : goal.returns-clause-areas
returns-clause-areas g c =
    let v = c.args.self.now in
    let w = c.take_room.new.self in
    let takes = room-log v c.reserve_entry.new.self w (room-entry v c.reserve_entry.new.self (by-ok c.reserve_entry.result _ _ c.in-Ok.is c.reserve_entry.ensures.reserved)) c.take_room.ensures.same in
    cleans-behind g.D.Disk.content g.D.Disk.may_leave v w c.clean_in_room.new.self c.args.page c.args.frame.now.page c.clean_in_room.result takes c.clean_in_room.ensures.areas
