use Rattle.std.proofs.Common.{◌≡◌, ◌∙◌, ◌+◌, ◌*◌, ◌≤◌, ⊎_elim, ℕ, List, None, length, refl, sym, ap, subst, arith, rules}
use Rattle.std.specs.Prelude.{vec_capacity}
use Rattle.std.proofs.lemmas.Bool.{cases_lt}
use Rattle.disk_model.specs.Time.{LeavesOnlyImages}
use Rattle.disk_model.proofs.Moments.{weaken}
use Rattle.plain_model.specs.History.{end_of, least_active}
use Rattle.cell_page.specs.Format.{page_size}
use Rattle.gate_log.specs.Batches.{most_bytes}
use Rattle.page_marks.specs.declared.marks.PageMark.{PageMark}
use Rattle.std.proofs.Math.Nat.{mul_comm as mul-comm}
use Rattle.core_store.specs.Frames.{AllAgree}
use Rattle.core_store.specs.JournalView.{JournalView, cells_of}
use Rattle.core_store.specs.Owed.{bytes_owed}
use Rattle.logged_journal.specs.View.{LoggedView, bytes_counted, image_bytes}
use Rattle.logged_journal.specs.Records.{MayHaveAll}
use Rattle.logged_journal.specs.Checkpoints.{wanted_below, changed_below, ForcesImages}
use Rattle.logged_journal.proofs.CommitDone.{on-ok}
use Rattle.logged_journal.proofs.RoomTaken.{room-same, room-log, room-have}
use Rattle.logged_journal.proofs.OldLogs.{need-is}
use Rattle.logged_journal.specs.declared.upkeep.Upkeep.TheVariants.{LogFull, Memory}
use Rattle.logged_journal.proofs.NamedAreas.{names-still, names-after}
use Rattle.logged_journal.proofs.UpkeepOpens.{still-upkeep}
use Rattle.logged_journal.proofs.logged.LoggedJournal.turn_idle.Goals as goal

pub returns-then-is_too_long-clause-moments : goal.returns-then-is_too_long-clause-moments
returns-then-is_too_long-clause-moments g c =
    still-upkeep g.D.Disk.may_leave g.D.Disk.moment g.D.Disk.left_since g.D.Disk.only_now c.args.self.now c.mark_full.new.self.disk (ap (λ (w : LoggedView g.row.D.Denot). w.disk) c.mark_full.ensures.marked) c.know_images.ensures.images

pub returns-then-is_err-clause-moments : goal.returns-then-is_err-clause-moments
returns-then-is_err-clause-moments g c =
    still-upkeep g.D.Disk.may_leave g.D.Disk.moment g.D.Disk.left_since g.D.Disk.only_now c.args.self.now c.take_room.new.self.disk (ap (λ (w : LoggedView g.row.D.Denot). w.disk) c.take_room.ensures.same) c.know_images.ensures.images

pub returns-in-Err-clause-moments : goal.returns-in-Err-clause-moments
returns-in-Err-clause-moments g c =
    still-upkeep g.D.Disk.may_leave g.D.Disk.moment g.D.Disk.left_since g.D.Disk.only_now c.args.self.now c.take_room.new.self.disk (ap (λ (w : LoggedView g.row.D.Denot). w.disk) c.take_room.ensures.same) c.know_images.ensures.images

pub turn_in_room-requires-after_bounds : goal.turn_in_room-requires-after_bounds
turn_in_room-requires-after_bounds g c κs within =
    let v = c.args.self.now in
    let w = c.take_room.new.self in
    let takes = c.take_room.ensures.same in
    let journal : w.journal ≡ v.journal = ap (λ (u : LoggedView g.row.D.Denot). u.journal) takes in
    let marks : w.marks ≡ v.marks = ap (λ (u : LoggedView g.row.D.Denot). u.marks) takes in
    let wanted = ap (λ (ms : List PageMark). length (wanted_below ms (length ms))) marks in
    let changed = ap (λ (ms : List PageMark). length (changed_below ms (length ms))) marks in
    let images : image_bytes g.row.SLOTS * length (wanted_below w.marks (length w.marks)) ≡ c.needs-needs.result.images * c.bytes_of_image.result =
    ap (λ (n : ℕ). image_bytes g.row.SLOTS * n) (wanted ∙ sym c.needs-needs.ensures.images) ∙ mul-comm (image_bytes g.row.SLOTS) c.needs-needs.result.images ∙ ap (λ (n : ℕ). c.needs-needs.result.images * n) (sym c.bytes_of_image.ensures) in
    let room = on-ok c.take_room.result _ (sym c.is_err.ensures.value ∙ c.if-is_err.false) c.take_room.ensures.room in
    let owed = ap (λ (j : JournalView). bytes_owed (end_of j.history)) journal in
    let counted = ap (λ (u : LoggedView g.row.D.Denot). bytes_counted u) takes in
    let short : bytes_counted v + c.needs-needs.result.images * c.bytes_of_image.result + 5 ≤ most_bytes =
    ⊎_elim (λ over. absurd (let clash = sym c.if-is_too_long.false ∙ c.is_too_long.ensures.long.1 over in cc (clash))) (λ fits. fits) (cases_lt most_bytes (bytes_counted v + c.needs-needs.result.images * c.bytes_of_image.result + 5)) in
    let run = c.in-Ok.ensures.room in (
      search rules,
      (
        search rules,
        (
          ap (λ (u : LoggedView g.row.D.Denot). u.failed) takes ∙ c.requires.running,
          (
            c.requires.pages ∙ ap (λ (j : JournalView). j.history.ids) (sym journal),
            (
              subst (λ (j : JournalView). AllAgree (cells_of j) c.args.frames.now) (sym journal) c.requires.agree,
              (
                ap (λ (j : JournalView). j.reserved) journal ∙ c.requires.reserved,
                (
                  subst (λ (j : JournalView). least_active (end_of j.history).state ≡ None) (sym journal) c.requires.idle,
                  (
                    omega (arith, room, owed, images),
                    (omega (arith, short, counted, images), subst (λ (n : ℕ). page_size g.row.SLOTS * n ≤ vec_capacity c.in-Ok.run') (c.needs-needs.ensures.changed ∙ sym changed) run),
                  ),
                ),
              ),
            ),
          ),
        ),
      ),
    )

pub returns-in-Ok-clause-moments : goal.returns-in-Ok-clause-moments
returns-in-Ok-clause-moments g c =
    let v = c.args.self.now in
    let w = c.take_room.new.self in
    let takes = room-log v v w (room-same v v refl) c.take_room.ensures.same in
    subst (λ (d : g.row.D.Denot). LeavesOnlyImages g.D.Disk.moment g.D.Disk.left_since d c.turn_in_room.new.self.disk (MayHaveAll v)) (ap (λ (u : LoggedView g.row.D.Denot). u.disk) takes)
    (weaken (MayHaveAll v) (λ image has. room-have v w image takes has) c.turn_in_room.ensures.moments)

pub returns-in-Ok-clause-old_log : goal.returns-in-Ok-clause-old_log
returns-in-Ok-clause-old_log g c is =
    subst (λ (u : LoggedView g.row.D.Denot). ForcesImages g.D.Disk.content c.args.frames.now u c.turn_in_room.new.self) c.take_room.ensures.same (c.turn_in_room.ensures.old_log is)

pub returns-then-is_too_long-clause-too_long : goal.returns-then-is_too_long-clause-too_long
returns-then-is_too_long-clause-too_long g c =
    let need = need-is g.row.SLOTS c.needs-needs.result.images c.bytes_of_image.result c.args.self.now.marks c.needs-needs.ensures.images c.bytes_of_image.ensures in
    let over = c.is_too_long.ensures.long.0 c.if-is_too_long.true in
    (λ is. omega (arith, need, over), λ past. refl)

pub returns-then-is_err-clause-too_long : goal.returns-then-is_err-clause-too_long
returns-then-is_err-clause-too_long g c =
    let need = need-is g.row.SLOTS c.needs-needs.result.images c.bytes_of_image.result c.args.self.now.marks c.needs-needs.ensures.images c.bytes_of_image.ensures in
    (λ is. absurd (cc (is)), λ past. absurd (let clash = sym c.if-is_too_long.false ∙ c.is_too_long.ensures.long.1 (omega (arith, need, past)) in cc (clash)))

pub returns-in-Err-clause-too_long : goal.returns-in-Err-clause-too_long
returns-in-Err-clause-too_long g c =
    let need = need-is g.row.SLOTS c.needs-needs.result.images c.bytes_of_image.result c.args.self.now.marks c.needs-needs.ensures.images c.bytes_of_image.ensures in
    (λ is. absurd (cc (is)), λ past. absurd (let clash = sym c.if-is_too_long.false ∙ c.is_too_long.ensures.long.1 (omega (arith, need, past)) in cc (clash)))

pub returns-in-Ok-clause-too_long : goal.returns-in-Ok-clause-too_long
returns-in-Ok-clause-too_long g c =
    let need = need-is g.row.SLOTS c.needs-needs.result.images c.bytes_of_image.result c.args.self.now.marks c.needs-needs.ensures.images c.bytes_of_image.ensures in (
      λ is. absurd (⊎_elim (λ done. let clash = sym done ∙ is in cc (clash)) (λ fault. let clash = sym fault ∙ is in cc (clash)) c.turn_in_room.ensures.answers),
      λ past. absurd (let clash = sym c.if-is_too_long.false ∙ c.is_too_long.ensures.long.1 (omega (arith, need, past)) in cc (clash)),
    )

pub returns-then-is_too_long-clause-super_area : goal.returns-then-is_too_long-clause-super_area
returns-then-is_too_long-clause-super_area g c =
    names-still g.D.Disk.content g.D.Disk.may_leave c.args.self.now c.mark_full.new.self LogFull (ap (λ (w : LoggedView g.row.D.Denot). w.disk) c.mark_full.ensures.marked) (λ e. cc (e))

pub returns-then-is_err-clause-super_area : goal.returns-then-is_err-clause-super_area
returns-then-is_err-clause-super_area g c =
    names-still g.D.Disk.content g.D.Disk.may_leave c.args.self.now c.take_room.new.self Memory (ap (λ (w : LoggedView g.row.D.Denot). w.disk) c.take_room.ensures.same) (λ e. cc (e))

pub returns-in-Err-clause-super_area : goal.returns-in-Err-clause-super_area
returns-in-Err-clause-super_area g c =
    names-still g.D.Disk.content g.D.Disk.may_leave c.args.self.now c.take_room.new.self Memory (ap (λ (w : LoggedView g.row.D.Denot). w.disk) c.take_room.ensures.same) (λ e. cc (e))

pub returns-in-Ok-clause-super_area : goal.returns-in-Ok-clause-super_area
returns-in-Ok-clause-super_area g c =
    let v = c.args.self.now in
    let w = c.take_room.new.self in
    names-after g.D.Disk.content g.D.Disk.may_leave v w c.turn_in_room.new.self c.turn_in_room.result (room-log v v w (room-same v v refl) c.take_room.ensures.same) c.turn_in_room.ensures.super_area
