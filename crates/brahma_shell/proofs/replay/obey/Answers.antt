use Rattle.std.proofs.Common.{[], inl}
use Rattle.std.proofs.lemmas.Result.{err_from_is_err_and}
use Rattle.script_lines.specs.declared.grammar.Line.TheVariants.{Clean}
use Rattle.brahma_shell.proofs.DoLemmas.{stops-call, upkeep-err, nothing-performs}
use Rattle.script_lines.proofs.OutputLemmas.{Appends-none}
use Rattle.brahma_shell.proofs.replay.obey.Goals as goal

pub returns-in_err-abort-in-Abort-clause-stopped : goal.returns-in_err-abort-in-Abort-clause-stopped
returns-in_err-abort-in-Abort-clause-stopped g c =
    let p = err_from_is_err_and c.from_residual.result c.from_residual.ensures.1 in
    let h = c.in_err-abort-in-Abort.ensures.err in
    rw (p.1, p.2)
    (inl (stops-call c.in_err-abort-in-Abort.field-0.0 c.args.line c.args.store.now.journal c.abort.new.store.journal _ _ h.0 (Appends-none (g.W.Sink.written c.args.out.now)), h.1))

pub returns-in_err-answer-in-Undo-clause-stopped : goal.returns-in_err-answer-in-Undo-clause-stopped
returns-in_err-answer-in-Undo-clause-stopped g c =
    let p = err_from_is_err_and c.from_residual-in_err-answer-in-Undo.result c.from_residual-in_err-answer-in-Undo.ensures.1 in
    let h = c.in_err-answer-in-Undo.ensures.err in
    rw (p.1, p.2)
    (inl (stops-call c.in_err-answer-in-Undo.field-0.0 c.args.line c.args.store.now.journal c.undo.new.store.journal _ _ h.0 (Appends-none (g.W.Sink.written c.args.out.now)), h.1))

pub returns-in-Nothing-clause-ok : goal.returns-in-Nothing-clause-ok
returns-in-Nothing-clause-ok g c = rw c.in-Nothing.is ([], nothing-performs c.args.store.now.journal, Appends-none (g.W.Sink.written c.args.out.now))

pub returns-in-Clean-clause-stopped : goal.returns-in-Clean-clause-stopped
returns-in-Clean-clause-stopped g c =
    rw c.in-Clean.is (upkeep-err g.D.Disk.faults c.clean.result (Clean c.in-Clean.page) c.args.store.now c.clean.new.store _ _ tt c.clean.ensures.err (Appends-none (g.W.Sink.written c.args.out.now)))
