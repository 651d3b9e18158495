use Rattle.std.proofs.Common.{◌≡◌, ℕ, ◌+◌, ◌*◌, ◌-◌, List, length, inl, inr, ⊎_elim, refl, sym, subst, ap, ◌∙◌, arith}
use Rattle.std.specs.Io.KnownBytes.{Appends}
use Rattle.cell_model.specs.Cells.{Cell}
use Rattle.plain_model.specs.History.{History}
use Rattle.core_store.specs.Opening.{opened_history}
use Rattle.script_lines.specs.Output.{AppendsFront}
use Rattle.std.specs.List.{range_with_len}
use Rattle.par_audit.specs.Garbage.{IsGarbage}
use Rattle.brahma_shell.specs.ParAudited.{par_audit_text}
use Rattle.brahma_shell.specs.Top.{IsJustOpened}
use Rattle.brahma_shell.proofs.AuditLemmas.{opening-cells, images-as}
use Rattle.brahma_shell.proofs.CrashLemmas.{just-opened}
use Rattle.brahma_shell.proofs.LogLemmas.{history-running}
use Rattle.brahma_shell.proofs.par_auditing.par_audit_store.Goals as goal
use Rattle.script_lines.specs.Numbers.{object_slots}

pub returns-in-Ok-clause-audited : goal.returns-in-Ok-clause-audited
returns-in-Ok-clause-audited g c =
    let v = c.in-Ok.store in
    let opened = c.in-Ok.ensures.opened in
    let told = c.tell_par_audit-status.ensures in
    let pages = c.pages.result in
    let ids = c.pages.ensures in
    let some = c.ids.ensures.some in
    let count = ap (λ (h : History). h.ids) opened.history in
    let size : length v.journal.opening ≡ 8 * pages + 1 = omega (arith, ids, some, c.ids.ensures.value, count) in
    let less : length v.journal.opening - 1 ≡ 8 * pages = omega (arith, size) in
    let cells = opening-cells v.journal opened.notes.0 in
    let history = history-running v opened.running ∙ opened.history ∙ ap (λ (n : ℕ). opened_history object_slots n v.journal.opening) less in
    λ left reads. inr (record {
      pages = pages;
      cells = v.journal.opening;
      opened = opened.opens;
      size = size;
      journal = (c.into_logged.result, refl, subst IsJustOpened (sym c.into_logged.ensures) (just-opened g.D.Disk.content g.D.Disk.faults _ v opened), ap (λ x. x.journal.opening) c.into_logged.ensures);
      exit = images-as g.D.Disk.may_leave v c.into_logged.result (opened_history object_slots (8 * pages) v.journal.opening) c.into_logged.ensures history c.history.ensures.opens;
      statuses = told.statuses;
      done = λ s.
          let d = told.done pages ids s in
          (d.0, subst (λ (cs : List Cell). IsGarbage cs (range_with_len 1 (8 * pages)) d.0) cells d.1, subst (λ (cs : List Cell). Appends (g.W.Sink.written c.args.out.now) (g.W.Sink.written c.tell_par_audit-status.new.out) (par_audit_text cs pages d.0)) cells d.2);
      write = λ s.
          let w = told.write pages ids s in
          (w.0, subst (λ (cs : List Cell). IsGarbage cs (range_with_len 1 (8 * pages)) w.0) cells w.1, w.3, subst (λ (cs : List Cell). AppendsFront (g.W.Sink.written c.args.out.now) (g.W.Sink.written c.tell_par_audit-status.new.out) (par_audit_text cs pages w.0)) cells w.2);
      memory = told.memory;
    })

pub returns-in-Ok-clause-statuses : goal.returns-in-Ok-clause-statuses
returns-in-Ok-clause-statuses g c = ⊎_elim (λ e. inl e) (λ h. ⊎_elim (λ e. inr (inl e)) (λ e. inr (inr (inr (inr (inl e))))) h) c.tell_par_audit-status.ensures.statuses
