use Rattle.std.proofs.Common.{◌≡◌, Ok, ap, subst, ◌∙◌, arith}
use Rattle.client_pass.specs.Workings.{Makes}
use Rattle.client_pass.proofs.Levels.{HasGivenUp, transaction-completed, transaction-given_up, transaction-cut, transaction-over}
use Rattle.client_pass.proofs.attempts.transact.Goals as goal

pub returns-in-Err-clause-err : goal.returns-in-Err-clause-err
returns-in-Err-clause-err g c =
    let i = c.attempts.invariant in
    let e = c.in-Err.ensures.err in
    (transaction-cut c.args.pass.now.view c.attempts.pass.view c.attempt.new.pass.view c.attempts.counter c.args.calls.now c.attempts-test.true i.1 e.0, e.1)

pub returns-in-Ok-true-clause-ok : goal.returns-in-Ok-true-clause-ok
returns-in-Ok-true-clause-ok g c =
    let i = c.attempts.invariant in
    let made = c.attempt.ensures.completed (c.in-Ok-true.is ∙ ap Ok c.in-Ok-true.field-0-test) in
    (transaction-completed c.args.pass.now.view c.attempts.pass.view c.attempt.new.pass.view c.attempts.counter c.args.calls.now c.attempts-test.true i.1 made.0, made.1)

pub attempts-preserved : goal.attempts-preserved
attempts-preserved g c =
    let i = c.attempts.invariant in
    let made = c.attempt.ensures.given_up (c.in-Ok-false.is ∙ ap Ok c.in-Ok-false.field-0-test) in (
      c.attempt.ensures.of,
      transaction-given_up c.args.pass.now.view c.attempts.pass.view c.attempt.new.pass.view c.attempts.counter c.args.calls.now c.attempts-test.true i.1 made.0,
      made.1,
      c.in-Ok-false.ensures.refused ∙ i.3,
    )

pub returns-clause-ok : goal.returns-clause-ok
returns-clause-ok g c =
    let i = c.attempts.invariant in
    let none = c.attempts-test.false in
    let few = c.attempts.auto.counter-end in
    let all : c.attempts.counter ≡ 4 = omega (arith, none, few) in
    (transaction-over c.args.pass.now.view c.attempts.pass.view c.args.calls.now (subst (λ k. Makes c.args.pass.now.view c.attempts.pass.view (HasGivenUp k c.args.calls.now)) all i.1), i.2)
