use Rattle.std.proofs.Common.{◌⊎◌, ◌∙◌, sym, subst, inr}
use Rattle.std.proofs.lemmas.Bool.{false≢true}
use Rattle.std.proofs.lemmas.Result.{err_from_is_err_and}
use Rattle.script_lines.specs.declared.grammar.Line.TheVariants.{Ask}
use Rattle.script_lines.proofs.OutputLemmas.{Appends-none}
use Rattle.brahma_shell.specs.declared.replay.Stop.{Stop}
use Rattle.brahma_shell.specs.Replay.{StopsCall, LeavesLog, FailsCall}
use Rattle.brahma_shell.proofs.DoLemmas.{call-fails, call-stops, fails-write}
use Rattle.brahma_shell.proofs.replay.answer_call.Goals as goal

pub returns-in_err-print_reply-in-Err-clause-stopped : goal.returns-in_err-print_reply-in-Err-clause-stopped
returns-in_err-print_reply-in-Err-clause-stopped g c =
    let p = err_from_is_err_and c.from_residual.result c.from_residual.ensures.1 in
    let failed = c.in_err-print_reply-in-Err.ensures.err in
    let is = c.is_of_commit.ensures.0 c.if-is_of_commit.true in
    let faults = g.D.Disk.faults in
    let old = c.args.store.now in
    let new = c.ask.new.store in
    let h = subst (λ (s : Stop). StopsCall s old.journal new.journal × LeavesLog faults s old new ⊎ FailsCall faults s c.args.client c.args.call old new) is c.in-Err.ensures.err in
    rw (p.1, p.2)
    (inr (fails-write faults c.in_err-print_reply-in-Err.field-0.0 c.args.client c.args.call old new _ _ failed.0 (call-fails faults c.args.client c.args.call old new h) failed.1))

pub returns-else-is_of_commit-clause-stopped : goal.returns-else-is_of_commit-clause-stopped
returns-else-is_of_commit-clause-stopped g c =
    call-stops g.D.Disk.faults c.in-Err.stop c.args.client c.args.call (Ask c.args.client c.args.call) c.args.store.now c.ask.new.store _ _ (λ e. absurd (false≢true (sym c.if-is_of_commit.false ∙ c.is_of_commit.ensures.1 e))) c.in-Err.ensures.err (Appends-none (g.W.Sink.written c.args.out.now))
