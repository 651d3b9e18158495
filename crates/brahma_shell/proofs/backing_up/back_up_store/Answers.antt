use Rattle.std.proofs.Common.{◌≡◌, ◌⊎◌, ◌↔◌, ℕ, ◌+◌, ◌*◌, ◌-◌, true, List, length, inl, inr, ⊎_elim, refl, sym, subst, ap, ◌∙◌, arith, rules}
use Rattle.cell_model.specs.Cells.{Cell}
use Rattle.plain_model.specs.History.{History}
use Rattle.disk_model.specs.Causes.{Rose}
use Rattle.disk_model.specs.Told.{IsImage, EachImage}
use Rattle.core_store.specs.declared.marks.Marks.{Marks}
use Rattle.core_store.specs.JournalView.{cells_of}
use Rattle.core_store.specs.Opening.{opened_history}
use Rattle.logged_journal.specs.Opens.{OpensAfter}
use Rattle.logged_journal.specs.Upkeep.{IsPastLogToTurn}
use Rattle.script_lines.specs.Numbers.{object_slots}
use Rattle.stream_writing.specs.Backups.{IsBaseOf}
use Rattle.brahma_shell.specs.BackedUp.{IsAtCheckpoint}
use Rattle.brahma_shell.proofs.AuditLemmas.{opening-cells}
use Rattle.brahma_shell.proofs.LogLemmas.{history-running}
use Rattle.brahma_shell.proofs.BackedUpLemmas.{idle-opened, room-opened, left, past-kept, cells-turned, at-checkpoint}
use Rattle.brahma_shell.proofs.backing_up.back_up_store.Goals as goal

pub tell_backup-status-requires : goal.tell_backup-status-requires
tell_backup-status-requires g c =
    let v = c.in-Ok.store in
    let opened = c.in-Ok.ensures.opened in
    (search rules, (opened.running, (idle-opened v.journal object_slots (length v.journal.opening - 1) v.journal.opening opened.history, room-opened v.journal object_slots (length v.journal.opening - 1) v.journal.opening opened.history opened.limits)))

pub returns-in-Ok-clause-backed_up : goal.returns-in-Ok-clause-backed_up
returns-in-Ok-clause-backed_up g c =
    let v = c.in-Ok.store in
    let w = c.tell_backup-status.new.store in
    let status = c.tell_backup-status.result in
    let opened = c.in-Ok.ensures.opened in
    let told = c.tell_backup-status.ensures in
    let pages = c.pages.result in
    let ids = c.pages.ensures in
    let some = c.ids.ensures.some in
    let into = c.into_logged.ensures in
    let count = ap (λ (h : History). h.ids) opened.history in
    let size : length v.journal.opening ≡ 8 * pages + 1 = omega (arith, ids, some, c.ids.ensures.value, count) in
    let less : length v.journal.opening - 1 ≡ 8 * pages = omega (arith, size) in
    let history = history-running v opened.running ∙ opened.history ∙ ap (λ (n : ℕ). opened_history object_slots n v.journal.opening) less in
    let keeps = left g.D.Disk.faults g.D.Disk.may_leave status v w opened.unmarked.1 told.leaves told.statuses in
    let base : (bytes : List ℕ) → (status ≡ 0) ⊎ (status ≡ 5) → IsBaseOf object_slots w.journal.history.ids (cells_of w.journal) bytes → IsBaseOf object_slots (8 * pages) v.journal.opening bytes =
    λ bytes turned is. subst (λ (n : ℕ). IsBaseOf object_slots n v.journal.opening bytes) (keeps.ids ∙ sym ids)
    (subst (λ (cs : List Cell). IsBaseOf object_slots w.journal.history.ids cs bytes) (cells-turned g.D.Disk.may_leave v w opened.notes.0 (told.leaves.turned turned)) is) in
    λ left reads. inr (record {
      pages = pages;
      cells = v.journal.opening;
      opened = opened.opens;
      size = size;
      journal = (
        c.into_logged.result,
        refl,
        ap (λ x. x.journal.opening) into ∙ keeps.opening,
        subst (λ x. (x.log_full ≡ true) ↔ (status ≡ 9)) (sym into) keeps.full,
        ap (λ x. x.journal.marks.trace) into ∙ keeps.trace ∙ ap (λ (m : Marks). m.trace) opened.unmarked.0,
      );
      exit = λ image is. subst (λ (h : History). OpensAfter object_slots h image) history
          (told.opens.each image (g.D.Disk.counts_now w.disk (g.D.Disk.moment v.disk) image told.opens.later (subst (λ x. IsImage g.D.Disk.may_leave x.disk image) into is)));
      statuses = told.statuses;
      turned = λ s. subst (λ x. EachImage g.D.Disk.may_leave x.disk (IsAtCheckpoint v.journal.opening)) (sym into)
          (at-checkpoint g.D.Disk.may_leave v w v.journal.opening (opening-cells v.journal opened.notes.0) (told.leaves.turned s));
      done = λ zero. let d = told.done zero in (d.0, base d.0 (inl zero) d.1, d.2);
      write = λ five. let d = told.write five in (d.0, (d.1.0, base d.1.0 (inr five) d.1.1, d.1.2));
      failed = λ six. (
        subst (λ x. Rose (g.D.Disk.faults c.args.disk) (g.D.Disk.faults x.disk)) (sym into)
            (subst (λ (n : ℕ). Rose n (g.D.Disk.faults w.disk)) (sym opened.counted.0 ∙ opened.unfailed) (told.leaves.failed six).rose),
        told.disk six,
      );
      memory = told.memory;
      limit = λ nine. (told.limit nine, (c.into_logged.result, refl, subst (λ x. IsPastLogToTurn object_slots x) (sym into) (past-kept v w (told.leaves.full nine))));
    })

pub returns-in-Ok-clause-statuses : goal.returns-in-Ok-clause-statuses
returns-in-Ok-clause-statuses g c =
    ⊎_elim (λ e. inl e) (λ h. ⊎_elim (λ e. inr (inl e)) (λ h. ⊎_elim (λ e. inr (inr (inl e))) (λ h. ⊎_elim (λ e. inr (inr (inr (inr (inl e))))) (λ e. inr (inr (inr (inr (inr e))))) h) h) h) c.tell_backup-status.ensures.statuses

pub returns-in-Ok-clause-disk_later : goal.returns-in-Ok-clause-disk_later
returns-in-Ok-clause-disk_later g c =
    let opened = c.in-Ok.ensures.opened in
    omega (arith, c.tell_backup-status.ensures.disk_later, opened.counted.0, opened.unfailed, ap (λ x. g.D.Disk.faults x.disk) c.into_logged.ensures)
