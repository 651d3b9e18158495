use Rattle.std.proofs.Common.{refl, sym, subst, ◌∙◌}
use Rattle.plain_model.specs.declared.calls.Call.TheVariants.{Abort}
use Rattle.plain_model.specs.declared.calls.Reply.{Reply}
use Rattle.client_pass.specs.Attempts.{IsMade}
use Rattle.client_pass.specs.Workings.{Makes}
use Rattle.client_pass.proofs.Levels.{completed-closed, completed-aborted, stuck-closed, stuck-aborted, either-cut, attempt-cut, shut}
use Rattle.client_pass.proofs.attempts.attempt.Goals as goal

pub returns-in-Err-clause-err : goal.returns-in-Err-clause-err
returns-in-Err-clause-err g c = let e = c.in-Err.ensures.err in (attempt-cut c.args.pass.now.view c.try_calls.new.pass.view c.args.calls.now e.0, e.1)

pub returns-in-Err-make_at-clause-err : goal.returns-in-Err-make_at-clause-err
returns-in-Err-make_at-clause-err g c =
    let a = c.in-Err-make_at.ensures.aborts refl (sym c.has_txn.ensures ∙ c.if-has_txn.true) in
    let e = c.in-Err-make_at.ensures.err in
    (either-cut c.args.pass.now.view c.try_calls.new.pass.view c.make_at.new.pass.view c.args.calls.now c.try_calls.result c.in-Ok.completed c.in-Ok.is c.requires.none (sym c.has_txn.ensures ∙ c.if-has_txn.true) c.try_calls.ensures.answered c.try_calls.ensures.stuck a.err, e.1)

pub returns-in_default-clause-completed : goal.returns-in_default-clause-completed
returns-in_default-clause-completed g c told =
    let now = sym c.has_txn.ensures ∙ c.if-has_txn.true in
    let a = c.in_default.ensures.aborts refl now in
    let one = subst (λ (r : Reply). Makes c.try_calls.new.pass.view c.make_at.new.pass.view (IsMade Abort r)) a.ok c.in_default.ensures.ok in
    let made = c.try_calls.ensures.answered (c.in-Ok.is ∙ told) in
    (completed-aborted c.args.pass.now.view c.try_calls.new.pass.view c.make_at.new.pass.view c.args.calls.now c.requires.none now made one, shut c.try_calls.new.pass.view c.make_at.new.pass.view now one)

pub returns-in_default-clause-given_up : goal.returns-in_default-clause-given_up
returns-in_default-clause-given_up g c told =
    let now = sym c.has_txn.ensures ∙ c.if-has_txn.true in
    let a = c.in_default.ensures.aborts refl now in
    let one = subst (λ (r : Reply). Makes c.try_calls.new.pass.view c.make_at.new.pass.view (IsMade Abort r)) a.ok c.in_default.ensures.ok in
    let made = c.try_calls.ensures.stuck (c.in-Ok.is ∙ told) in
    (stuck-aborted c.args.pass.now.view c.try_calls.new.pass.view c.make_at.new.pass.view c.args.calls.now c.requires.none now made one, shut c.try_calls.new.pass.view c.make_at.new.pass.view now one)

pub returns-else-has_txn-clause-completed : goal.returns-else-has_txn-clause-completed
returns-else-has_txn-clause-completed g c told =
    let now = sym c.has_txn.ensures ∙ c.if-has_txn.false in
    (completed-closed c.args.pass.now.view c.try_calls.new.pass.view c.args.calls.now c.requires.none now (c.try_calls.ensures.answered (c.in-Ok.is ∙ told)), now)

pub returns-else-has_txn-clause-given_up : goal.returns-else-has_txn-clause-given_up
returns-else-has_txn-clause-given_up g c told =
    let now = sym c.has_txn.ensures ∙ c.if-has_txn.false in
    (stuck-closed c.args.pass.now.view c.try_calls.new.pass.view c.args.calls.now c.requires.none now (c.try_calls.ensures.stuck (c.in-Ok.is ∙ told)), now)
