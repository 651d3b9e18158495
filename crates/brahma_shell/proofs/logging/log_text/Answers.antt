use Rattle.std.proofs.Common.{ℕ, Err, refl, sym, ap, subst, ◌∙◌}
use Rattle.store_opening.specs.declared.open_refusal.OpenRefusal.{OpenRefusal}
use Rattle.log_printing.specs.declared.refusal.PrintRefusal.TheVariants.{Unread}
use Rattle.script_lines.specs.Output.{open_refusal_line}
use Rattle.brahma_shell.specs.declared.ended.Ended.TheVariants.{Shut}
use Rattle.brahma_shell.specs.Top.{outside}
use Rattle.brahma_shell.specs.Logged.{Logged}
use Rattle.brahma_shell.proofs.ShippedLemmas.{behind-text}
use Rattle.brahma_shell.proofs.LoggedLemmas.{logs-unread}
use Rattle.brahma_shell.proofs.logging.log_text.Goals as goal

pub returns-in-Err-Unread-clause-logged : goal.returns-in-Err-Unread-clause-logged
returns-in-Err-Unread-clause-logged g c left reads =
    let e = c.in-Err-Unread.refusal in
    let at = c.in-Err-Unread.ensures in
    let told = ap Err c.in-Err-Unread.field-0-is in
    let old = g.W.Sink.written c.args.out.now in
    let mid = g.W.Sink.written c.print_log.new.out in
    let new = g.W.Sink.written c.refuse.new.out in
    let n = g.W.Sink.faults c.refuse.new.out in
    let kept = at.cause.sink_kept (λ w. absurd (cc (sym told ∙ w))) in
    let cut = at.cut e told in
    subst (λ (status : ℕ). Logged g.D.Disk.content g.D.Disk.may_leave g.D.Disk.moment g.D.Disk.left_since c.args.disk (outside left reads old (g.W.Sink.faults c.args.out.now) (g.D.Disk.faults c.args.disk))
    (outside left reads new n (g.D.Disk.faults c.print_log.new.disk)) status (Shut c.print_log.new.disk)) (sym c.refuse.ensures.status)
    (logs-unread g.D.Disk.content g.D.Disk.may_leave g.D.Disk.moment g.D.Disk.left_since c.args.disk (outside left reads old (g.W.Sink.faults c.args.out.now) (g.D.Disk.faults c.args.disk))
    (outside left reads new n (g.D.Disk.faults c.print_log.new.disk)) (Shut c.print_log.new.disk) refl at.looks e (at.of_log e told) (at.refused e told)
    (λ disk. at.cause.disk_failed (told ∙ ap (λ (x : OpenRefusal). Err (Unread x)) disk))
    cut.text
    (behind-text old mid new (g.W.Sink.faults c.args.out.now) (g.W.Sink.faults c.print_log.new.out) n cut.text (open_refusal_line e) cut.written kept c.refuse.ensures.last)
    cut.starved cut.failed cut.refused)
