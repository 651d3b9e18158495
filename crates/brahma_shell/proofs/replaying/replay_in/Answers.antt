use Rattle.std.proofs.Common.{◌≡◌, ◌∙◌, sym, ap, subst, arith, Err}
use Rattle.script_lines.specs.LineReader.{pending}
use Rattle.brahma_shell.specs.declared.replay.Reached.TheVariants.{End, CrashLine}
use Rattle.brahma_shell.specs.Scripts.{left_in}
use Rattle.brahma_shell.proofs.EndLemmas.{granted-running, of-replay, sound-opening, stops-granted, stops-later, off}
use Rattle.brahma_shell.proofs.LoopLemmas.{ComesTo, comes-first, then-journal, when-ok, marks-ok, all-done, all-stopped, all-crashed, crashed-later, comes-again, all-done-again}
use Rattle.brahma_shell.proofs.replaying.replay_in.Goals as goal

pub crashes-init : goal.crashes-init
crashes-init g c =
    let v = c.args.store in
    let h = c.history.ensures in
    let just = c.requires.opened in
    let journal = of-replay g.D.Disk.may_leave v just.store (sound-opening v.journal h.sound just.entries) (granted-running v just.running) h.legal h.running h.entries h.sound h.led h.lasting h.images h.opens in
    let left = g.R.Source.left c.args.source.now in
    let written = g.W.Sink.written c.args.out.now in
    record {
      number = omega (arith, c.new-script.ensures.number);
      come = subst (λ n. ComesTo g.D.Disk.content g.D.Disk.may_leave left (left_in c.new-script.result left) written written n v.journal.opening v) (sym c.new-script.ensures.number)
          (comes-first g.D.Disk.content g.D.Disk.may_leave left written (pending c.new-script.result.lines) v c.new-script.ensures.pending just journal);
      source_later = omega arith;
      out_later = omega arith;
      disk_later = omega arith;
    }

pub returns-in-Ok-End-clause-replayed : goal.returns-in-Ok-End-clause-replayed
returns-in-Ok-End-clause-replayed g c =
    let v = c.crashes.store in
    let w = c.replay-reached.new.store in
    let come = c.crashes.invariant.come in
    let ran = c.replay-reached.ensures in
    let h = c.history-in-crashes.ensures in
    let at = c.in-Ok-End in
    let field : at.field-0 ≡ End = rw at.is at at.field-0-is in
    let goes = when-ok c.replay-reached.result at.field-0 End _ at.is field ran.goes_on in
    let reached = when-ok c.replay-reached.result at.field-0 End _ at.is field ran.reached in
    let text = when-ok c.replay-reached.result at.field-0 End _ at.is field ran.printed in
    let marks = marks-ok c.replay-reached.result at.field-0 v.journal w.journal at.is ran.marks in
    let journal = then-journal g.D.Disk.content g.D.Disk.may_leave _ _ _ _ _ _ v w come ran.same_start (granted-running w goes.running) h.legal h.running h.entries h.sound h.led h.lasting h.images h.opens in
    let e = c.end_in.ensures in
    rw e.kept
    (λ disk faults le reads. all-done g.D.Disk.content g.D.Disk.may_leave _ _ _ _ _ _ v w come ran.same_start journal c.args.source.now c.replay-reached.new.source disk reads
    (g.R.Source.left c.replay-reached.new.source) (g.W.Sink.written c.replay-reached.new.out) (g.W.Sink.written c.end_in.new.out) (g.R.Source.faults c.args.source.now) (g.R.Source.faults c.replay-reached.new.source)
    (g.W.Sink.faults c.args.out.now) (g.W.Sink.faults c.replay-reached.new.out) (g.W.Sink.faults c.end_in.new.out) faults (g.D.Disk.faults w.disk) c.end_in.result.0
    (record { running = goes.running; trace = off w.journal.marks v.journal.marks marks come.stands.just.unmarked; log = goes.log_full ∙ come.stands.just.log_unmarked }) reached text (omega (arith, c.crashes.invariant.out_later, ran.out_later))
    (record { statuses = e.statuses; done = e.done; write = e.write; memory = e.memory }))

pub returns-in-Err-crash-clause-replayed : goal.returns-in-Err-crash-clause-replayed
returns-in-Err-crash-clause-replayed g c =
    let v = c.crashes.store in
    let w = c.replay-reached.new.store in
    let come = c.crashes.invariant.come in
    let ran = c.replay-reached.ensures in
    let h = c.history-in-crashes.ensures in
    let line = CrashLine c.in-Ok-CrashLine.pick c.in-Ok-CrashLine.last in
    let at = c.in-Ok-CrashLine in
    let field : at.field-0 ≡ line = rw at.is at at.field-0-is in
    let goes = when-ok c.replay-reached.result at.field-0 line _ at.is field ran.goes_on in
    let reached = when-ok c.replay-reached.result at.field-0 line _ at.is field ran.reached in
    let text = when-ok c.replay-reached.result at.field-0 line _ at.is field ran.printed in
    let journal = then-journal g.D.Disk.content g.D.Disk.may_leave _ _ _ _ _ _ v w come ran.same_start (granted-running w goes.running) h.legal h.running h.entries h.sound h.led h.lasting h.images h.opens in
    λ disk faults le reads. all-crashed g.D.Disk.content g.D.Disk.may_leave _ _ _ _ _ _ v w come ran.same_start journal reached.0 c.in-Ok-CrashLine.pick c.in-Ok-CrashLine.last (pending c.replay-reached.new.script.lines) (g.R.Source.left c.replay-reached.new.source)
    (g.W.Sink.written c.replay-reached.new.out) reached.2 goes.running text c.args.source.now c.replay-reached.new.source disk reads g.D.Disk.faults (g.W.Sink.written c.crash.new.out) (g.R.Source.faults c.args.source.now) (g.R.Source.faults c.replay-reached.new.source)
    (g.W.Sink.faults c.args.out.now) (g.W.Sink.faults c.replay-reached.new.out) (g.W.Sink.faults c.crash.new.out) faults c.in-Err-crash.ended.0 c.in-Err-crash.ended.1 (omega (arith, c.crashes.invariant.out_later, ran.out_later))
    (omega (arith, le, c.crashes.invariant.disk_later, goes.later)) c.in-Err-crash.ensures.err

pub returns-in-Err-crash-clause-later : goal.returns-in-Err-crash-clause-later
returns-in-Err-crash-clause-later g c =
    let v = c.crashes.store in
    let w = c.replay-reached.new.store in
    let come = c.crashes.invariant.come in
    let ran = c.replay-reached.ensures in
    let h = c.history-in-crashes.ensures in
    let line = CrashLine c.in-Ok-CrashLine.pick c.in-Ok-CrashLine.last in
    let at = c.in-Ok-CrashLine in
    let field : at.field-0 ≡ line = rw at.is at at.field-0-is in
    let goes = when-ok c.replay-reached.result at.field-0 line _ at.is field ran.goes_on in
    let reached = when-ok c.replay-reached.result at.field-0 line _ at.is field ran.reached in
    let text = when-ok c.replay-reached.result at.field-0 line _ at.is field ran.printed in
    let journal = then-journal g.D.Disk.content g.D.Disk.may_leave _ _ _ _ _ _ v w come ran.same_start (granted-running w goes.running) h.legal h.running h.entries h.sound h.led h.lasting h.images h.opens in
    let later = crashed-later g.D.Disk.content g.D.Disk.may_leave _ _ _ _ _ _ v w come ran.same_start journal reached.0 c.in-Ok-CrashLine.pick c.in-Ok-CrashLine.last (pending c.replay-reached.new.script.lines) (g.R.Source.left c.replay-reached.new.source)
    (g.W.Sink.written c.replay-reached.new.out) reached.2 goes.running text g.D.Disk.faults (g.W.Sink.written c.crash.new.out) (g.W.Sink.faults c.replay-reached.new.out) (g.W.Sink.faults c.crash.new.out) c.in-Err-crash.ended.0 c.in-Err-crash.ended.1 c.in-Err-crash.ensures.err in
    record {
      reads = omega (arith, c.crashes.invariant.source_later, ran.source_later);
      writes = omega (arith, c.crashes.invariant.out_later, ran.out_later, c.crash.ensures.later);
      disk = omega (arith, c.crashes.invariant.disk_later, goes.later, later);
    }

pub returns-then-last-clause-replayed : goal.returns-then-last-clause-replayed
returns-then-last-clause-replayed g c =
    let v = c.crashes.store in
    let w = c.replay-reached.new.store in
    let come = c.crashes.invariant.come in
    let ran = c.replay-reached.ensures in
    let h = c.history-in-crashes.ensures in
    let line = CrashLine c.in-Ok-CrashLine.pick c.in-Ok-CrashLine.last in
    let at = c.in-Ok-CrashLine in
    let field : at.field-0 ≡ line = rw at.is at at.field-0-is in
    let goes = when-ok c.replay-reached.result at.field-0 line _ at.is field ran.goes_on in
    let reached = when-ok c.replay-reached.result at.field-0 line _ at.is field ran.reached in
    let text = when-ok c.replay-reached.result at.field-0 line _ at.is field ran.printed in
    let journal = then-journal g.D.Disk.content g.D.Disk.may_leave _ _ _ _ _ _ v w come ran.same_start (granted-running w goes.running) h.legal h.running h.entries h.sound h.led h.lasting h.images h.opens in
    let again = c.in-Ok.ensures.ok in
    let e = c.end_in-then-last.ensures in
    rw e.kept
    (λ disk faults le reads. all-done-again g.D.Disk.content g.D.Disk.may_leave _ _ _ _ _ _ v w come ran.same_start journal reached.0 c.in-Ok-CrashLine.pick c.in-Ok-CrashLine.last (pending c.replay-reached.new.script.lines) (g.R.Source.left c.replay-reached.new.source)
    (g.W.Sink.written c.replay-reached.new.out) reached.2 goes.running text g.D.Disk.faults c.in-Ok.opened again.0 c.args.source.now c.replay-reached.new.source disk reads (g.W.Sink.written c.crash.new.out) (g.W.Sink.written c.end_in-then-last.new.out)
    (g.R.Source.faults c.args.source.now) (g.R.Source.faults c.replay-reached.new.source) (g.W.Sink.faults c.args.out.now) (g.W.Sink.faults c.crash.new.out) (g.W.Sink.faults c.end_in-then-last.new.out) faults (g.D.Disk.faults c.in-Ok.opened.disk) c.end_in-then-last.result.0 c.if-last.true again.1
    (omega (arith, c.crashes.invariant.out_later, ran.out_later, c.crash.ensures.later)) (record { statuses = e.statuses; done = e.done; write = e.write; memory = e.memory }))

pub crashes-preserved : goal.crashes-preserved
crashes-preserved g c =
    let v = c.crashes.store in
    let w = c.replay-reached.new.store in
    let come = c.crashes.invariant.come in
    let ran = c.replay-reached.ensures in
    let h = c.history-in-crashes.ensures in
    let line = CrashLine c.in-Ok-CrashLine.pick c.in-Ok-CrashLine.last in
    let at = c.in-Ok-CrashLine in
    let field : at.field-0 ≡ line = rw at.is at at.field-0-is in
    let goes = when-ok c.replay-reached.result at.field-0 line _ at.is field ran.goes_on in
    let reached = when-ok c.replay-reached.result at.field-0 line _ at.is field ran.reached in
    let text = when-ok c.replay-reached.result at.field-0 line _ at.is field ran.printed in
    let number = when-ok c.replay-reached.result at.field-0 line _ at.is field ran.number in
    let journal = then-journal g.D.Disk.content g.D.Disk.may_leave _ _ _ _ _ _ v w come ran.same_start (granted-running w goes.running) h.legal h.running h.entries h.sound h.led h.lasting h.images h.opens in
    let again = c.in-Ok.ensures.ok in
    record {
      number = number;
      come = comes-again g.D.Disk.content g.D.Disk.may_leave _ _ _ _ _ _ v w come ran.same_start journal reached.0 c.in-Ok-CrashLine.pick c.in-Ok-CrashLine.last (pending c.replay-reached.new.script.lines) (g.R.Source.left c.replay-reached.new.source)
          (g.W.Sink.written c.replay-reached.new.out) reached.2 goes.running text g.D.Disk.faults c.in-Ok.opened again.0 (g.W.Sink.written c.crash.new.out) c.replay-reached.new.script.number c.if-last.false reached.1 again.1;
      source_later = omega (arith, c.crashes.invariant.source_later, ran.source_later);
      out_later = omega (arith, c.crashes.invariant.out_later, ran.out_later, c.crash.ensures.later);
      disk_later = omega (arith, c.crashes.invariant.disk_later, goes.later, again.0.later);
    }

pub returns-in-Err-clause-replayed : goal.returns-in-Err-clause-replayed
returns-in-Err-clause-replayed g c =
    let v = c.crashes.store in
    let w = c.replay-reached.new.store in
    let s = c.in-Err.stop in
    let come = c.crashes.invariant.come in
    let ran = c.in-Err.ensures in
    let h = c.history-in-crashes.ensures in
    let granted = stops-granted g.D.Disk.faults s _ _ _ _ _ v w ran.stopped in
    let journal = then-journal g.D.Disk.content g.D.Disk.may_leave _ _ _ _ _ _ v w come ran.same_start granted h.legal h.running h.entries h.sound h.led h.lasting h.images h.opens in
    let e = c.end_stopped-status.ensures in
    rw (c.into_logged.ensures, e.status)
    (λ disk faults le reads. all-stopped g.D.Disk.content g.D.Disk.may_leave _ _ _ _ _ _ v w come ran.same_start journal c.args.source.now c.replay-reached.new.source disk reads g.D.Disk.faults s
    (g.R.Source.left c.replay-reached.new.source) (g.W.Sink.written c.replay-reached.new.out) (g.W.Sink.written c.end_stopped-status.new.out) (g.R.Source.faults c.args.source.now) (g.R.Source.faults c.replay-reached.new.source)
    (g.W.Sink.faults c.args.out.now) (g.W.Sink.faults c.replay-reached.new.out) (g.W.Sink.faults c.end_stopped-status.new.out) faults ran.marks ran.stopped
    (λ e. let r = ran.read (ap Err e) in omega (arith, c.crashes.invariant.source_later, r)) (λ e. let r = ran.write (ap Err e) in omega (arith, c.crashes.invariant.out_later, r))
    (omega (arith, c.crashes.invariant.out_later, ran.out_later)) e.later (omega (arith, le, c.crashes.invariant.disk_later)) h.full h.log_full e.last)

pub returns-in-Err-clause-later : goal.returns-in-Err-clause-later
returns-in-Err-clause-later g c =
    let v = c.crashes.store in
    let w = c.replay-reached.new.store in
    let s = c.in-Err.stop in
    let ran = c.in-Err.ensures in
    let goes = stops-later g.D.Disk.faults s _ _ _ _ _ v w ran.stopped in
    rw c.into_logged.ensures
    (record {
      reads = omega (arith, c.crashes.invariant.source_later, ran.source_later);
      writes = omega (arith, c.crashes.invariant.out_later, ran.out_later, c.end_stopped-status.ensures.later);
      disk = omega (arith, c.crashes.invariant.disk_later, goes);
    })
