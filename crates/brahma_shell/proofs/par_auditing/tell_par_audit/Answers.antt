use Rattle.std.proofs.Common.{◌≡◌, ℕ, sym, subst, ◌∙◌, arith}
use Rattle.std.specs.List.{range_with_len}
use Rattle.core_store.specs.JournalView.{cells_of}
use Rattle.par_audit.specs.Garbage.{IsGarbage}
use Rattle.brahma_shell.proofs.AuditLemmas.{par_audit-told, par_audit-cut}
use Rattle.brahma_shell.proofs.par_auditing.tell_par_audit.Goals as goal

pub returns-in-Ok-write_all-clause-done : goal.returns-in-Ok-write_all-clause-done
returns-in-Ok-write_all-clause-done g c = λ pages ids zero.
    let same : c.pages.result ≡ pages = omega (arith, c.pages.ensures, ids) in (
      c.in-Ok.wide.garbage,
      subst (λ (n : ℕ). IsGarbage (cells_of c.args.store.now.journal) (range_with_len 1 n) c.in-Ok.wide.garbage) (sym ids) c.in-Ok.ensures.garbage,
      par_audit-told _ _ (cells_of c.args.store.now.journal) pages _ _ _ _ c.in-Ok.wide.garbage _ c.items.result.now _
          (c.as_bytes.ensures.value ∙ c.as_str.ensures.value ∙ c.par_audit_line-line.ensures) same (c.from.ensures ∙ c.in-Ok.ensures.live) (c.from-2.ensures ∙ c.in-Ok.ensures.zero) ids (c.items.ensures ∙ c.in-Ok.ensures.differences) c.from-3.ensures
          c.in-Ok-write_all.ensures.ok,
    )

pub returns-clause-write : goal.returns-clause-write
returns-clause-write g c = λ pages ids five.
    let same : c.pages.result ≡ pages = omega (arith, c.pages.ensures, ids) in (
      c.in-Ok.wide.garbage,
      subst (λ (n : ℕ). IsGarbage (cells_of c.args.store.now.journal) (range_with_len 1 n) c.in-Ok.wide.garbage) (sym ids) c.in-Ok.ensures.garbage,
      par_audit-cut _ _ (cells_of c.args.store.now.journal) pages _ _ _ _ c.in-Ok.wide.garbage _ c.items.result.now _
          (c.as_bytes.ensures.value ∙ c.as_str.ensures.value ∙ c.par_audit_line-line.ensures) same (c.from.ensures ∙ c.in-Ok.ensures.live) (c.from-2.ensures ∙ c.in-Ok.ensures.zero) ids (c.items.ensures ∙ c.in-Ok.ensures.differences) c.from-3.ensures
          c.in-Err.ensures.front,
      c.in-Err.ensures.cause.failed,
    )
