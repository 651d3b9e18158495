use Rattle.std.proofs.Common.{◌≡◌, ◌∙◌, ◌*◌, ◌<◌, ◌≤◌, ℕ, List, None, length, sym, ap, subst, arith, rules}
use Rattle.std.specs.Prelude.{vec_capacity}
use Rattle.disk_model.specs.declared.area.Area.{Area}
use Rattle.disk_model.specs.declared.area.Area.TheVariants.{Pages}
use Rattle.disk_model.specs.Told.{EachImage}
use Rattle.disk_model.specs.Time.{LeavesOnlyImages}
use Rattle.disk_model.proofs.Moments.{weaken}
use Rattle.logged_journal.proofs.Upkeeps.{have-same}
use Rattle.plain_model.specs.History.{end_of, least_active}
use Rattle.cell_page.specs.Format.{page_size}
use Rattle.gate_log.specs.State.{other_log}
use Rattle.opened_images.specs.Marks.{StandsInPlace}
use Rattle.page_marks.specs.declared.marks.PageMark.{PageMark}
use Rattle.core_store.specs.Frames.{AllAgree}
use Rattle.core_store.specs.JournalView.{JournalView, cells_of}
use Rattle.logged_journal.specs.View.{LoggedView, bytes_counted}
use Rattle.logged_journal.specs.Records.{MayHaveAll}
use Rattle.logged_journal.specs.declared.upkeep.Upkeep.TheVariants.{Done, DiskFault}
use Rattle.logged_journal.specs.Upkeep.{IsTurned}
use Rattle.logged_journal.specs.Checkpoints.{changed_below, AreCurrent}
use Rattle.logged_journal.proofs.CommitDone.{on-ok, on-err}
use Rattle.logged_journal.proofs.CleanSteps.{fails-behind}
use Rattle.logged_journal.proofs.OldLogs.{old-log}
use Rattle.logged_journal.proofs.NamedAreas.{names-unforced, names-unplaced, names-old, names-other}
use Rattle.logged_journal.proofs.CheckpointSteps.{images-current, images-changed, leads-all, all-runs, all-marks, all-empty, placed-moments, leads-placed, placed-durable, anew-moments, placed-area, hidden-owes, hidden-runs, hidden-full, hidden-limits, turns}
use Rattle.logged_journal.proofs.logged.LoggedJournal.turn_in_room.Goals as goal

pub returns-then-is_err-clause-moments : goal.returns-then-is_err-clause-moments
returns-then-is_err-clause-moments g c =
    let v = c.args.self.now in
    let frames = c.args.frames.now in
    let im = c.log_images.new.self in
    let all = c.force_all.new.self in
    let logs = c.log_images.ensures.logged in
    let more = c.log_images.ensures.counted in
    let grows : bytes_counted v ≤ bytes_counted im = omega (arith, more) in
    let running = c.requires.running in
    weaken (MayHaveAll v) (λ image has. have-same v im image (ap (λ (w : LoggedView g.row.D.Denot). w.journal) logs.same) (ap (λ (w : LoggedView g.row.D.Denot). w.durable) logs.same) (ap (λ (w : LoggedView g.row.D.Denot). w.failed) logs.same) has)
    (subst (λ (d : g.row.D.Denot). LeavesOnlyImages g.D.Disk.moment g.D.Disk.left_since d c.force_all.new.self.disk (MayHaveAll im)) (ap (λ (w : LoggedView g.row.D.Denot). w.disk) logs.same) c.force_all.ensures.moments)

pub place_all-requires-after_bounds : goal.place_all-requires-after_bounds
place_all-requires-after_bounds g c κs within =
    let v = c.args.self.now in
    let frames = c.args.frames.now in
    let im = c.log_images.new.self in
    let all = c.force_all.new.self in
    let logs = c.log_images.ensures.logged in
    let more = c.log_images.ensures.counted in
    let grows : bytes_counted v ≤ bytes_counted im = omega (arith, more) in
    let running = c.requires.running in
    let forces = on-ok c.force_all.result _ (sym c.is_err.ensures.value ∙ c.if-is_err.false) c.force_all.ensures.done in
    let leads = leads-all frames v im all running logs forces grows in
    let disk = ap (λ (w : LoggedView g.row.D.Denot). g.D.Disk.faults w.disk) logs.same in
    let later = c.force_all.ensures.later in
    let same : length (changed_below all.marks (length all.marks)) ≡ length (changed_below v.marks (length v.marks)) =
    ap (λ (ms : List PageMark). length (changed_below ms (length ms))) (all-marks frames v im all running logs forces grows) ∙ images-changed frames v im logs in (
      search rules,
      (
        search rules,
        (
          all-runs frames v im all running logs forces grows,
          (
            c.requires.pages ∙ ap (λ (j : JournalView). j.history.ids) (sym leads.journal),
            (
              subst (λ (j : JournalView). AllAgree (cells_of j) frames) (sym leads.journal) c.requires.agree,
              (
                c.log_images.ensures.typed,
                (
                  subst (λ (ms : List PageMark). AreCurrent ms) (sym (all-marks frames v im all running logs forces grows)) (images-current frames v im logs),
                  (all-empty frames v im all running logs forces grows, subst (λ (n : ℕ). page_size g.row.SLOTS * n ≤ vec_capacity c.args.run.now) (sym same) c.requires.run),
                ),
              ),
            ),
          ),
        ),
      ),
    )

pub returns-then-is_err-2-clause-fault : goal.returns-then-is_err-2-clause-fault
returns-then-is_err-2-clause-fault g c is =
    let v = c.args.self.now in
    let frames = c.args.frames.now in
    let im = c.log_images.new.self in
    let all = c.force_all.new.self in
    let logs = c.log_images.ensures.logged in
    let more = c.log_images.ensures.counted in
    let grows : bytes_counted v ≤ bytes_counted im = omega (arith, more) in
    let running = c.requires.running in
    let forces = on-ok c.force_all.result _ (sym c.is_err.ensures.value ∙ c.if-is_err.false) c.force_all.ensures.done in
    let leads = leads-all frames v im all running logs forces grows in
    let disk = ap (λ (w : LoggedView g.row.D.Denot). g.D.Disk.faults w.disk) logs.same in
    let later = c.force_all.ensures.later in
    fails-behind g.D.Disk.faults v all c.place_all.new.self leads (omega (arith, disk, later)) (on-err c.place_all.result _ (sym c.is_err-2.ensures.value ∙ c.if-is_err-2.true) c.place_all.ensures.fault)

pub returns-then-is_err-2-clause-moments : goal.returns-then-is_err-2-clause-moments
returns-then-is_err-2-clause-moments g c =
    let v = c.args.self.now in
    let frames = c.args.frames.now in
    let im = c.log_images.new.self in
    let all = c.force_all.new.self in
    let logs = c.log_images.ensures.logged in
    let more = c.log_images.ensures.counted in
    let grows : bytes_counted v ≤ bytes_counted im = omega (arith, more) in
    let running = c.requires.running in
    let forces = on-ok c.force_all.result _ (sym c.is_err.ensures.value ∙ c.if-is_err.false) c.force_all.ensures.done in
    let leads = leads-all frames v im all running logs forces grows in
    let disk = ap (λ (w : LoggedView g.row.D.Denot). g.D.Disk.faults w.disk) logs.same in
    let later = c.force_all.ensures.later in
    placed-moments frames v im all running logs forces grows g.D.Disk.moment g.D.Disk.left_since c.place_all.new.self.disk c.force_all.ensures.moments c.place_all.ensures.moments

pub begin_anew-requires-after_bounds : goal.begin_anew-requires-after_bounds
begin_anew-requires-after_bounds g c κs within =
    let v = c.args.self.now in
    let frames = c.args.frames.now in
    let im = c.log_images.new.self in
    let all = c.force_all.new.self in
    let logs = c.log_images.ensures.logged in
    let more = c.log_images.ensures.counted in
    let grows : bytes_counted v ≤ bytes_counted im = omega (arith, more) in
    let running = c.requires.running in
    let forces = on-ok c.force_all.result _ (sym c.is_err.ensures.value ∙ c.if-is_err.false) c.force_all.ensures.done in
    let leads = leads-all frames v im all running logs forces grows in
    let disk = ap (λ (w : LoggedView g.row.D.Denot). g.D.Disk.faults w.disk) logs.same in
    let later = c.force_all.ensures.later in
    let placed = c.place_all.new.self in
    let only = on-ok c.place_all.result _ (sym c.is_err-2.ensures.value ∙ c.if-is_err-2.false) c.place_all.ensures.done in
    let leads_on = leads-placed frames v im all running logs forces grows placed only in
    let durable = placed-durable frames v im all running logs forces grows placed only in
    let next = c.place_all.ensures.later in
    let stand = on-ok c.place_all.result _ (sym c.is_err-2.ensures.value ∙ c.if-is_err-2.false) c.place_all.ensures.stand in (
      search rules,
      (
        leads_on.running ∙ running,
        (
          c.requires.pages ∙ ap (λ (j : JournalView). j.history.ids) (sym leads_on.journal),
          (
            subst (λ (j : JournalView). least_active (end_of j.history).state ≡ None) (sym leads_on.journal) c.requires.idle,
            (
              durable ∙ ap (λ (j : JournalView). length j.notes) (sym leads_on.journal),
              (
                ap (λ (w : LoggedView g.row.D.Denot). w.log.tail) only ∙ all-empty frames v im all running logs forces grows,
                subst (λ (j : JournalView). (page : ℕ) → page < length frames → (area : List ℕ) → g.D.Disk.may_leave placed.disk Pages area → StandsInPlace g.row.SLOTS area (cells_of j) page) (sym (ap (λ (w : LoggedView g.row.D.Denot). w.journal) only)) stand,
              ),
            ),
          ),
        ),
      ),
    )

pub returns-then-is_err-3-clause-fault : goal.returns-then-is_err-3-clause-fault
returns-then-is_err-3-clause-fault g c is =
    let v = c.args.self.now in
    let frames = c.args.frames.now in
    let im = c.log_images.new.self in
    let all = c.force_all.new.self in
    let logs = c.log_images.ensures.logged in
    let more = c.log_images.ensures.counted in
    let grows : bytes_counted v ≤ bytes_counted im = omega (arith, more) in
    let running = c.requires.running in
    let forces = on-ok c.force_all.result _ (sym c.is_err.ensures.value ∙ c.if-is_err.false) c.force_all.ensures.done in
    let leads = leads-all frames v im all running logs forces grows in
    let disk = ap (λ (w : LoggedView g.row.D.Denot). g.D.Disk.faults w.disk) logs.same in
    let later = c.force_all.ensures.later in
    let placed = c.place_all.new.self in
    let only = on-ok c.place_all.result _ (sym c.is_err-2.ensures.value ∙ c.if-is_err-2.false) c.place_all.ensures.done in
    let leads_on = leads-placed frames v im all running logs forces grows placed only in
    let durable = placed-durable frames v im all running logs forces grows placed only in
    let next = c.place_all.ensures.later in
    fails-behind g.D.Disk.faults v placed c.begin_anew.new.self leads_on (omega (arith, disk, later, next)) (on-err c.begin_anew.result _ (sym c.is_err-3.ensures.value ∙ c.if-is_err-3.true) c.begin_anew.ensures.fault)

pub returns-then-is_err-3-clause-moments : goal.returns-then-is_err-3-clause-moments
returns-then-is_err-3-clause-moments g c =
    let v = c.args.self.now in
    let frames = c.args.frames.now in
    let im = c.log_images.new.self in
    let all = c.force_all.new.self in
    let logs = c.log_images.ensures.logged in
    let more = c.log_images.ensures.counted in
    let grows : bytes_counted v ≤ bytes_counted im = omega (arith, more) in
    let running = c.requires.running in
    let forces = on-ok c.force_all.result _ (sym c.is_err.ensures.value ∙ c.if-is_err.false) c.force_all.ensures.done in
    let leads = leads-all frames v im all running logs forces grows in
    let disk = ap (λ (w : LoggedView g.row.D.Denot). g.D.Disk.faults w.disk) logs.same in
    let later = c.force_all.ensures.later in
    let placed = c.place_all.new.self in
    let only = on-ok c.place_all.result _ (sym c.is_err-2.ensures.value ∙ c.if-is_err-2.false) c.place_all.ensures.done in
    let leads_on = leads-placed frames v im all running logs forces grows placed only in
    let durable = placed-durable frames v im all running logs forces grows placed only in
    let next = c.place_all.ensures.later in
    anew-moments frames v im all running logs forces grows placed only g.D.Disk.moment g.D.Disk.left_since c.begin_anew.new.self.disk c.force_all.ensures.moments c.place_all.ensures.moments c.begin_anew.ensures.moments

pub lower_peak-requires-after_bounds : goal.lower_peak-requires-after_bounds
lower_peak-requires-after_bounds g c κs within =
    let v = c.args.self.now in
    let frames = c.args.frames.now in
    let im = c.log_images.new.self in
    let all = c.force_all.new.self in
    let logs = c.log_images.ensures.logged in
    let more = c.log_images.ensures.counted in
    let grows : bytes_counted v ≤ bytes_counted im = omega (arith, more) in
    let running = c.requires.running in
    let forces = on-ok c.force_all.result _ (sym c.is_err.ensures.value ∙ c.if-is_err.false) c.force_all.ensures.done in
    let leads = leads-all frames v im all running logs forces grows in
    let disk = ap (λ (w : LoggedView g.row.D.Denot). g.D.Disk.faults w.disk) logs.same in
    let later = c.force_all.ensures.later in
    let placed = c.place_all.new.self in
    let only = on-ok c.place_all.result _ (sym c.is_err-2.ensures.value ∙ c.if-is_err-2.false) c.place_all.ensures.done in
    let leads_on = leads-placed frames v im all running logs forces grows placed only in
    let durable = placed-durable frames v im all running logs forces grows placed only in
    let next = c.place_all.ensures.later in
    let begins = on-ok c.begin_anew.result _ (sym c.is_err-3.ensures.value ∙ c.if-is_err-3.false) c.begin_anew.ensures.done in
    let anew = c.begin_anew.new.self in
    let hidden = c.hide.new.self in
    let hides = c.hide.ensures.hidden in
    let owes = hidden-owes frames v im all running logs forces grows placed only (length frames) anew hidden begins hides c.requires.idle in
    let most = c.max.ensures in
    let long = c.log_used.ensures.value in
    let peak = c.peak-peak.ensures.value in (
      search rules,
      (
        hidden-runs frames v im all running logs forces grows placed only (length frames) anew hidden begins hides c.requires.idle,
        (
          omega (arith, owes, most, long),
          (λ is.
              let before = c.marks.ensures.full (c.marks.ensures.log ∙ sym (hidden-full frames v im all running logs forces grows placed only (length frames) anew hidden begins hides c.requires.idle) ∙ is) in
              let limits = ap (λ l. l.log) (hidden-limits frames v im all running logs forces grows placed only (length frames) anew hidden begins hides c.requires.idle) in
              omega (arith, before, limits, most, peak)),
        ),
      ),
    )

pub returns-clause-done : goal.returns-clause-done
returns-clause-done g c is =
    let v = c.args.self.now in
    let frames = c.args.frames.now in
    let im = c.log_images.new.self in
    let all = c.force_all.new.self in
    let logs = c.log_images.ensures.logged in
    let more = c.log_images.ensures.counted in
    let grows : bytes_counted v ≤ bytes_counted im = omega (arith, more) in
    let running = c.requires.running in
    let forces = on-ok c.force_all.result _ (sym c.is_err.ensures.value ∙ c.if-is_err.false) c.force_all.ensures.done in
    let leads = leads-all frames v im all running logs forces grows in
    let disk = ap (λ (w : LoggedView g.row.D.Denot). g.D.Disk.faults w.disk) logs.same in
    let later = c.force_all.ensures.later in
    let placed = c.place_all.new.self in
    let only = on-ok c.place_all.result _ (sym c.is_err-2.ensures.value ∙ c.if-is_err-2.false) c.place_all.ensures.done in
    let leads_on = leads-placed frames v im all running logs forces grows placed only in
    let durable = placed-durable frames v im all running logs forces grows placed only in
    let next = c.place_all.ensures.later in
    let begins = on-ok c.begin_anew.result _ (sym c.is_err-3.ensures.value ∙ c.if-is_err-3.false) c.begin_anew.ensures.done in
    let anew = c.begin_anew.new.self in
    let hidden = c.hide.new.self in
    let hides = c.hide.ensures.hidden in
    let most = c.max.ensures in
    let long = c.log_used.ensures.value in
    let peak = c.peak-peak.ensures.value in
    turns frames v im all running logs forces grows placed only (length frames) anew hidden begins hides c.requires.idle c.lower_peak.new.self c.max.result (omega (arith, most, long, peak)) c.lower_peak.ensures.lowered

pub returns-clause-turned : goal.returns-clause-turned
returns-clause-turned g c is =
    let v = c.args.self.now in
    let frames = c.args.frames.now in
    let im = c.log_images.new.self in
    let all = c.force_all.new.self in
    let logs = c.log_images.ensures.logged in
    let more = c.log_images.ensures.counted in
    let grows : bytes_counted v ≤ bytes_counted im = omega (arith, more) in
    let running = c.requires.running in
    let forces = on-ok c.force_all.result _ (sym c.is_err.ensures.value ∙ c.if-is_err.false) c.force_all.ensures.done in
    let leads = leads-all frames v im all running logs forces grows in
    let disk = ap (λ (w : LoggedView g.row.D.Denot). g.D.Disk.faults w.disk) logs.same in
    let later = c.force_all.ensures.later in
    let placed = c.place_all.new.self in
    let only = on-ok c.place_all.result _ (sym c.is_err-2.ensures.value ∙ c.if-is_err-2.false) c.place_all.ensures.done in
    let leads_on = leads-placed frames v im all running logs forces grows placed only in
    let durable = placed-durable frames v im all running logs forces grows placed only in
    let next = c.place_all.ensures.later in
    let begins = on-ok c.begin_anew.result _ (sym c.is_err-3.ensures.value ∙ c.if-is_err-3.false) c.begin_anew.ensures.done in
    let anew = c.begin_anew.new.self in
    let hidden = c.hide.new.self in
    let hides = c.hide.ensures.hidden in
    let turned = on-ok c.begin_anew.result _ (sym c.is_err-3.ensures.value ∙ c.if-is_err-3.false) c.begin_anew.ensures.turned in
    let disk_same : c.lower_peak.new.self.disk ≡ anew.disk = ap (λ (w : LoggedView g.row.D.Denot). w.disk) c.lower_peak.ensures.lowered ∙ ap (λ (w : LoggedView g.row.D.Denot). w.disk) hides in
    subst (λ (d : g.row.D.Denot). EachImage g.D.Disk.may_leave d (IsTurned g.row.SLOTS (cells_of v.journal) (other_log v.log.area))) (sym disk_same)
    (subst (λ (a : Area). EachImage g.D.Disk.may_leave anew.disk (IsTurned g.row.SLOTS (cells_of v.journal) (other_log a))) (placed-area frames v im all running logs forces grows placed only)
    (subst (λ (j : JournalView). EachImage g.D.Disk.may_leave anew.disk (IsTurned g.row.SLOTS (cells_of j) (other_log placed.log.area))) leads_on.journal turned))

pub returns-clause-moments : goal.returns-clause-moments
returns-clause-moments g c =
    let v = c.args.self.now in
    let frames = c.args.frames.now in
    let im = c.log_images.new.self in
    let all = c.force_all.new.self in
    let logs = c.log_images.ensures.logged in
    let more = c.log_images.ensures.counted in
    let grows : bytes_counted v ≤ bytes_counted im = omega (arith, more) in
    let running = c.requires.running in
    let forces = on-ok c.force_all.result _ (sym c.is_err.ensures.value ∙ c.if-is_err.false) c.force_all.ensures.done in
    let leads = leads-all frames v im all running logs forces grows in
    let disk = ap (λ (w : LoggedView g.row.D.Denot). g.D.Disk.faults w.disk) logs.same in
    let later = c.force_all.ensures.later in
    let placed = c.place_all.new.self in
    let only = on-ok c.place_all.result _ (sym c.is_err-2.ensures.value ∙ c.if-is_err-2.false) c.place_all.ensures.done in
    let leads_on = leads-placed frames v im all running logs forces grows placed only in
    let durable = placed-durable frames v im all running logs forces grows placed only in
    let next = c.place_all.ensures.later in
    let begins = on-ok c.begin_anew.result _ (sym c.is_err-3.ensures.value ∙ c.if-is_err-3.false) c.begin_anew.ensures.done in
    let anew = c.begin_anew.new.self in
    let hidden = c.hide.new.self in
    let hides = c.hide.ensures.hidden in
    let disk_same : c.lower_peak.new.self.disk ≡ anew.disk = ap (λ (w : LoggedView g.row.D.Denot). w.disk) c.lower_peak.ensures.lowered ∙ ap (λ (w : LoggedView g.row.D.Denot). w.disk) hides in
    subst (λ (d : g.row.D.Denot). LeavesOnlyImages g.D.Disk.moment g.D.Disk.left_since v.disk d (MayHaveAll v)) (sym disk_same)
    (anew-moments frames v im all running logs forces grows placed only g.D.Disk.moment g.D.Disk.left_since anew.disk c.force_all.ensures.moments c.place_all.ensures.moments c.begin_anew.ensures.moments)

pub returns-clause-old_log : goal.returns-clause-old_log
returns-clause-old_log g c is =
    let v = c.args.self.now in
    let frames = c.args.frames.now in
    let im = c.log_images.new.self in
    let all = c.force_all.new.self in
    let logs = c.log_images.ensures.logged in
    let more = c.log_images.ensures.counted in
    let grows : bytes_counted v ≤ bytes_counted im = omega (arith, more) in
    let running = c.requires.running in
    let forces = on-ok c.force_all.result _ (sym c.is_err.ensures.value ∙ c.if-is_err.false) c.force_all.ensures.done in
    let placed = c.place_all.new.self in
    let only = on-ok c.place_all.result _ (sym c.is_err-2.ensures.value ∙ c.if-is_err-2.false) c.place_all.ensures.done in
    let anew = c.begin_anew.new.self in
    let disk_same : c.lower_peak.new.self.disk ≡ anew.disk = ap (λ (w : LoggedView g.row.D.Denot). w.disk) c.lower_peak.ensures.lowered ∙ ap (λ (w : LoggedView g.row.D.Denot). w.disk) c.hide.ensures.hidden in
    old-log g.D.Disk.content g.D.Disk.may_leave frames v im all placed anew c.lower_peak.new.self logs
    c.force_all.ensures.area
    (on-ok c.force_all.result _ (sym c.is_err.ensures.value ∙ c.if-is_err.false) c.force_all.ensures.bytes)
    c.place_all.ensures.others
    (placed-area frames v im all running logs forces grows placed only)
    (on-ok c.begin_anew.result _ (sym c.is_err-3.ensures.value ∙ c.if-is_err-3.false) c.begin_anew.ensures.old)
    disk_same

pub returns-then-is_err-clause-super_area : goal.returns-then-is_err-clause-super_area
returns-then-is_err-clause-super_area g c =
    names-unforced g.D.Disk.content g.D.Disk.may_leave c.args.frames.now (length c.args.self.now.marks) c.args.self.now c.log_images.new.self c.force_all.new.self c.log_images.ensures.logged c.force_all.ensures.area c.force_all.ensures.others DiskFault (λ e. cc (e))

pub returns-then-is_err-2-clause-super_area : goal.returns-then-is_err-2-clause-super_area
returns-then-is_err-2-clause-super_area g c =
    names-unplaced g.D.Disk.content g.D.Disk.may_leave c.args.frames.now (length c.args.self.now.marks) c.args.self.now c.log_images.new.self c.force_all.new.self c.log_images.ensures.logged c.force_all.ensures.area c.force_all.ensures.others
    c.place_all.new.self c.place_all.ensures.others DiskFault (λ e. cc (e))

pub returns-then-is_err-3-clause-super_area : goal.returns-then-is_err-3-clause-super_area
returns-then-is_err-3-clause-super_area g c =
    names-old g.D.Disk.content g.D.Disk.may_leave c.args.frames.now (length c.args.self.now.marks) c.args.self.now c.log_images.new.self c.force_all.new.self c.log_images.ensures.logged c.force_all.ensures.area c.force_all.ensures.others
    c.place_all.new.self c.place_all.ensures.others c.begin_anew.new.self c.begin_anew.ensures.others DiskFault (λ e. cc (e))

pub returns-clause-super_area : goal.returns-clause-super_area
returns-clause-super_area g c =
    let v = c.args.self.now in
    let frames = c.args.frames.now in
    let im = c.log_images.new.self in
    let all = c.force_all.new.self in
    let logs = c.log_images.ensures.logged in
    let more = c.log_images.ensures.counted in
    let grows : bytes_counted v ≤ bytes_counted im = omega (arith, more) in
    let running = c.requires.running in
    let forces = on-ok c.force_all.result _ (sym c.is_err.ensures.value ∙ c.if-is_err.false) c.force_all.ensures.done in
    let placed = c.place_all.new.self in
    let only = on-ok c.place_all.result _ (sym c.is_err-2.ensures.value ∙ c.if-is_err-2.false) c.place_all.ensures.done in
    let anew = c.begin_anew.new.self in
    let disk_same : c.lower_peak.new.self.disk ≡ anew.disk = ap (λ (w : LoggedView g.row.D.Denot). w.disk) c.lower_peak.ensures.lowered ∙ ap (λ (w : LoggedView g.row.D.Denot). w.disk) c.hide.ensures.hidden in
    names-other g.D.Disk.content g.D.Disk.may_leave c.args.frames.now (length c.args.self.now.marks) c.args.self.now c.log_images.new.self c.force_all.new.self c.log_images.ensures.logged c.force_all.ensures.area c.force_all.ensures.others
    placed c.place_all.ensures.others anew c.begin_anew.ensures.others c.lower_peak.new.self Done disk_same (placed-area frames v im all running logs forces grows placed only)
    (on-ok c.begin_anew.result _ (sym c.is_err-3.ensures.value ∙ c.if-is_err-3.false) c.begin_anew.ensures.named)
