use Rattle.std.proofs.Common.{ℕ, Err, sym, ap, subst}
use Rattle.brahma_shell.specs.Top.{outside}
use Rattle.brahma_shell.specs.Checked.{Checked}
use Rattle.brahma_shell.proofs.CheckEnds.{checked-done, checked-write, checked-refused}
use Rattle.brahma_shell.proofs.checking.check_source.Goals as goal

pub returns-in-Ok-write_verdict-clause-checked : goal.returns-in-Ok-write_verdict-clause-checked
returns-in-Ok-write_verdict-clause-checked g c disk_faults =
    checked-done
    (outside (g.R.Source.left c.args.script.now) (g.R.Source.faults c.args.script.now) (g.W.Sink.written c.args.out.now) (g.W.Sink.faults c.args.out.now) disk_faults)
    (outside (g.R.Source.left c.check_stream.new.source) (g.R.Source.faults c.check_stream.new.source) (g.W.Sink.written c.write_verdict.new.out) (g.W.Sink.faults c.write_verdict.new.out) disk_faults)
    c.in-Ok.verdict c.in-Ok.ensures.checked c.in-Ok-write_verdict.ensures.ok

pub returns-in-Err-write_verdict-clause-checked : goal.returns-in-Err-write_verdict-clause-checked
returns-in-Err-write_verdict-clause-checked g c disk_faults =
    checked-write
    (outside (g.R.Source.left c.args.script.now) (g.R.Source.faults c.args.script.now) (g.W.Sink.written c.args.out.now) (g.W.Sink.faults c.args.out.now) disk_faults)
    (outside (g.R.Source.left c.check_stream.new.source) (g.R.Source.faults c.check_stream.new.source) (g.W.Sink.written c.write_verdict.new.out) (g.W.Sink.faults c.write_verdict.new.out) disk_faults)
    c.in-Ok.verdict c.in-Ok.ensures.checked c.in-Err-write_verdict.ensures.cause.failed c.in-Err-write_verdict.ensures.front

pub returns-in-Err-clause-checked : goal.returns-in-Err-clause-checked
returns-in-Err-clause-checked g c disk_faults =
    let e = c.in-Err.refusal in
    let at = c.in-Err.ensures in
    let before = outside (g.R.Source.left c.args.script.now) (g.R.Source.faults c.args.script.now) (g.W.Sink.written c.args.out.now) (g.W.Sink.faults c.args.out.now) disk_faults in
    let after = outside (g.R.Source.left c.check_stream.new.source) (g.R.Source.faults c.check_stream.new.source) (g.W.Sink.written c.refuse_check.new.out) (g.W.Sink.faults c.refuse_check.new.out) disk_faults in
    subst (λ (status : ℕ). Checked before after status) (sym c.refuse_check.ensures.status)
    (checked-refused before after e at.checked c.refuse_check.ensures.last (λ read. at.cause.failed (ap Err read)))
