use Rattle.std.proofs.Common.{Ok, ap, ◌∙◌}
use Rattle.std.proofs.lemmas.List.{get_or_default}
use Rattle.client_pass.proofs.Levels.{calls-next, first-stuck, calls-stuck, first-cut, calls-cut}
use Rattle.client_pass.proofs.attempts.try_calls.Goals as goal

pub returns-in-Ok-false-clause-stuck : goal.returns-in-Ok-false-clause-stuck
returns-in-Ok-false-clause-stuck g c told =
    first-stuck c.args.pass.now.view c.try_call.new.pass.view c.args.calls.now (c.try_call.ensures.stuck (c.in-Ok-false.is ∙ ap Ok c.in-Ok-false.field-0-test))

pub returns-in-Err-clause-err : goal.returns-in-Err-clause-err
returns-in-Err-clause-err g c =
    let e = c.in-Err.ensures.err in
    (first-cut c.args.pass.now.view c.try_call.new.pass.view c.args.calls.now e.0, e.1)

pub returns-in-Ok-false-try_call-clause-stuck : goal.returns-in-Ok-false-try_call-clause-stuck
returns-in-Ok-false-try_call-clause-stuck g c told =
    let i = c.calls.invariant in
    let made = c.try_call-in-calls.ensures.stuck (c.in-Ok-false-try_call.is ∙ ap Ok c.in-Ok-false-try_call.field-0-test) in
    calls-stuck c.args.pass.now.view c.calls.pass.view c.try_call-in-calls.new.pass.view c.args.calls.now c.calls.call-index _ c.calls-test.true (get_or_default c.args.calls.now c.calls.call-index _ _ c.calls-test.true) i.1 made

pub returns-in-Err-try_call-clause-err : goal.returns-in-Err-try_call-clause-err
returns-in-Err-try_call-clause-err g c =
    let i = c.calls.invariant in
    let e = c.in-Err-try_call.ensures.err in
    (calls-cut c.args.pass.now.view c.calls.pass.view c.try_call-in-calls.new.pass.view c.args.calls.now c.calls.call-index _ c.calls-test.true (get_or_default c.args.calls.now c.calls.call-index _ _ c.calls-test.true) i.1 e.0, e.1)

pub calls-preserved : goal.calls-preserved
calls-preserved g c =
    let i = c.calls.invariant in
    let made = c.try_call-in-calls.ensures.answered (c.in-Ok-true-try_call.is ∙ ap Ok c.in-Ok-true-try_call.field-0-test) in
    (c.try_call-in-calls.ensures.of, calls-next c.args.pass.now.view c.calls.pass.view c.try_call-in-calls.new.pass.view c.args.calls.now c.calls.call-index _ c.calls-test.true (get_or_default c.args.calls.now c.calls.call-index _ _ c.calls-test.true) i.1 made, c.in-Ok-true-try_call.ensures.refused ∙ i.2)
