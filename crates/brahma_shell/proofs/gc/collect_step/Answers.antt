use Rattle.std.proofs.Common.{false, [], Err, refl, ap}
use Rattle.std.proofs.lemmas.Result.{err_from_is_err_and}
use Rattle.plain_model.specs.declared.calls.Entry.TheVariants.{Delete, Hidden}
use Rattle.plain_model.specs.Text.{line_of}
use Rattle.logged_journal.specs.declared.collect.CollectRefusal.{CollectRefusal}
use Rattle.script_lines.specs.declared.grammar.Line.TheVariants.{CollectStep}
use Rattle.brahma_shell.specs.declared.replay.Stop.TheVariants as stop
use Rattle.brahma_shell.proofs.DoLemmas.{stops-call}
use Rattle.brahma_shell.proofs.GcLemmas.{steps-event, step-write}
use Rattle.brahma_shell.proofs.LogLemmas.{write-leaves}
use Rattle.script_lines.proofs.OutputLemmas.{Appends-none}
use Rattle.brahma_shell.proofs.gc.collect_step.Goals as goal

pub returns-in-Ok-Did-clause-ok : goal.returns-in-Ok-Did-clause-ok
returns-in-Ok-Did-clause-ok g c =
    let quiet = rw c.in-Ok-Did.field-0-is at c.in-Ok-Did.ensures.quiet in
    steps-event c.args.store.now.journal c.collect_step.new.self.journal (record { popped = c.in-Ok-Did.popped; left = c.in-Ok-Did.left }) Hidden [] _ _ tt (c.in-Ok-Did.ensures.did c.in-Ok-Did.popped c.in-Ok-Did.left c.in-Ok-Did.field-0-is) refl (quiet tt) (Appends-none (g.W.Sink.written c.args.out.now))

pub returns-in_ok-print_deletion-in-Ok-Deleted-clause-ok : goal.returns-in_ok-print_deletion-in-Ok-Deleted-clause-ok
returns-in_ok-print_deletion-in-Ok-Deleted-clause-ok g c =
    let quiet = rw c.in-Ok-Deleted.field-0-is at c.in-Ok-Deleted.ensures.quiet in
    steps-event c.args.store.now.journal c.collect_step.new.self.journal (record { popped = false; left = c.in-Ok-Deleted.left }) (Delete c.in-Ok-Deleted.id) (line_of (Delete c.in-Ok-Deleted.id)) _ _ tt (c.in-Ok-Deleted.ensures.deleted c.in-Ok-Deleted.id c.in-Ok-Deleted.left c.in-Ok-Deleted.field-0-is) refl (quiet tt) c.in_ok-print_deletion-in-Ok-Deleted.ensures.ok

pub returns-in_err-print_deletion-in-Ok-Deleted-clause-stopped : goal.returns-in_err-print_deletion-in-Ok-Deleted-clause-stopped
returns-in_err-print_deletion-in-Ok-Deleted-clause-stopped g c =
    let p = err_from_is_err_and c.from_residual.result c.from_residual.ensures.1 in
    let failed = c.in_err-print_deletion-in-Ok-Deleted.ensures.err in
    rw (p.1, p.2) (
      step-write c.in_err-print_deletion-in-Ok-Deleted.field-0.0 c.args.store.now.journal c.collect_step.new.self.journal c.in-Ok-Deleted.left (Delete c.in-Ok-Deleted.id) (line_of (Delete c.in-Ok-Deleted.id)) _ _ failed.0 tt (c.in-Ok-Deleted.ensures.deleted c.in-Ok-Deleted.id c.in-Ok-Deleted.left c.in-Ok-Deleted.field-0-is) refl failed.1,
      write-leaves g.D.Disk.faults c.in_err-print_deletion-in-Ok-Deleted.field-0.0 c.args.store.now c.collect_step.new.self failed.0 c.in-Ok-Deleted.ensures.goes_on,
    )

pub returns-in-Ok-Memory-clause-stopped : goal.returns-in-Ok-Memory-clause-stopped
returns-in-Ok-Memory-clause-stopped g c = (stops-call stop.Memory CollectStep c.args.store.now.journal c.collect_step.new.self.journal _ _ (c.in-Ok-Memory.ensures.memory c.in-Ok-Memory.field-0-is) (Appends-none (g.W.Sink.written c.args.out.now)), c.in-Ok-Memory.ensures.goes_on)

pub returns-in-Err-LogFull-clause-stopped : goal.returns-in-Err-LogFull-clause-stopped
returns-in-Err-LogFull-clause-stopped g c =
    let h = c.in-Err-LogFull.ensures.log_full (ap (λ (x : CollectRefusal). Err x) c.in-Err-LogFull.field-0-is) in
    (stops-call stop.LogFull CollectStep c.args.store.now.journal c.collect_step.new.self.journal _ _ h.0 (Appends-none (g.W.Sink.written c.args.out.now)), h.1)

pub returns-in-Ok-TraceFull-clause-stopped : goal.returns-in-Ok-TraceFull-clause-stopped
returns-in-Ok-TraceFull-clause-stopped g c = (stops-call stop.Full CollectStep c.args.store.now.journal c.collect_step.new.self.journal _ _ (c.in-Ok-TraceFull.ensures.full c.in-Ok-TraceFull.field-0-is) (Appends-none (g.W.Sink.written c.args.out.now)), c.in-Ok-TraceFull.ensures.goes_on)
