use Rattle.std.proofs.Common.{◌≡◌, ◌∙◌, arith}
use Rattle.core_store.specs.JournalView.{cells_of}
use Rattle.brahma_shell.proofs.AuditLemmas.{audit-told}
use Rattle.brahma_shell.proofs.auditing.tell_audit.Goals as goal

pub returns-in-Ok-write_all-clause-done : goal.returns-in-Ok-write_all-clause-done
returns-in-Ok-write_all-clause-done g c = λ pages ids zero.
    let same : c.pages.result ≡ pages = omega (arith, c.pages.ensures, ids) in
    audit-told _ _ (cells_of c.args.store.now.journal) pages _ _ _ _ c.items.result.now _
    (c.as_bytes.ensures.value ∙ c.as_str.ensures.value ∙ c.audit_line-line.ensures) same (c.from.ensures ∙ c.in-Ok.ensures.live) (c.from-2.ensures ∙ c.in-Ok.ensures.zero) ids (c.items.ensures ∙ c.in-Ok.ensures.differences)
    c.in-Ok-write_all.ensures.ok
