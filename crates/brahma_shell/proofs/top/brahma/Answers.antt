use Rattle.std.proofs.Common.{refl, sym, arith}
use mir.Syntax.{of_param}
use Rattle.brahma_shell.specs.declared.commands.Command.TheVariants.{Run, ParAudit}
use Rattle.brahma_shell.specs.Commands.{command_of}
use Rattle.brahma_shell.proofs.AnswerLemmas.{asks-run, asks-par_audit, pieces-within, named}
use Rattle.brahma_shell.proofs.top.brahma.Goals as goal

pub returns-in-Ok-Some-Run : goal.returns-in-Ok-Some-Run
returns-in-Ok-Some-Run g c =
    let at = c.in-Ok-Some-Run in
    let asked = named at.field-0 (command_of c.args.words.now) at.field-0-0 Run at.ensures.value at.field-0-is at.field-0-0-is in
    let r = c.run_script.ensures in
    asks-run g.D.Disk.content g.D.Disk.may_leave g.D.Disk.moment g.D.Disk.left_since _ _ _ _ _ _ _ _ r.later g.D.Disk.reads_may_stay g.D.Disk.counts_now asked r.statuses r.ran

pub par_audit_store-requires : goal.par_audit_store-requires
par_audit_store-requires g c =
    let at = c.in-Ok-Some-ParAudit in
    let send = c.type_bounds.send-D in
    let sync = c.type_bounds.sync-T in
    (record { owned = send.owned; leaving = λ k. send.leaving (λ _. k (of_param 1)) }, (record { shared = sync.shared }, pieces-within c.args.words.now at.pieces (sym (named at.field-0 (command_of c.args.words.now) at.field-0-0 (ParAudit at.pieces) at.ensures.value at.field-0-is at.field-0-0-is))))

pub returns-in-Ok-Some-ParAudit : goal.returns-in-Ok-Some-ParAudit
returns-in-Ok-Some-ParAudit g c =
    let at = c.in-Ok-Some-ParAudit in
    let asked = named at.field-0 (command_of c.args.words.now) at.field-0-0 (ParAudit at.pieces) at.ensures.value at.field-0-is at.field-0-0-is in
    let a = c.par_audit_store.ensures in
    asks-par_audit g.D.Disk.content g.D.Disk.may_leave g.D.Disk.moment g.D.Disk.left_since _ _ _ _ _ _ _ _ (record { reads = omega arith; writes = a.out_later; disk = a.disk_later }) g.D.Disk.reads_may_stay g.D.Disk.counts_now at.pieces asked a.statuses refl
    (a.audited (g.R.Source.left c.args.script.now) (g.R.Source.faults c.args.script.now))
