use Rattle.std.proofs.Common.{◌≡◌, ◌<◌, ◌≤◌, List, length, sym, ap, subst, ◌∙◌}
use lib.ListN.{get_or}
use Rattle.plain_model.specs.declared.calls.Call.{Call}
use Rattle.client_pass.proofs.Levels.{script-next, script-cut, script-over, does-cut, does-all}
use Rattle.client_pass.proofs.working.work.Goals as goal

pub returns-in-Err-clause-does : goal.returns-in-Err-clause-does
returns-in-Err-clause-does g c =
    let i = c.transactions.invariant in
    let e = c.in-Err.ensures.err in
    let within = (subst (λ (xs : List (List Call)). c.transactions.calls-index < length xs) c.items-calls-items.ensures c.transactions-test.true) in
    let is = (subst (λ (x : List Call). get_or c.args.script.now.txns c.transactions.calls-index x ≡ x) (sym c.items.ensures) (sym (c.calls-item.is ∙ ap (λ (xs : List (List Call)). get_or xs c.transactions.calls-index c.calls-item.result) c.items-calls-items.ensures))) in
    does-cut c.args.pass.now.view c.transact.new.pass.view c.args.script.now.txns c.in-Err.end e.1.0
    (script-cut c.args.pass.now.view c.transactions.pass.view c.transact.new.pass.view c.args.script.now.txns c.transactions.calls-index _ within is i.1 e.0)

pub transactions-preserved : goal.transactions-preserved
transactions-preserved g c =
    let i = c.transactions.invariant in
    let made = c.in_default.ensures.ok in
    let within = (subst (λ (xs : List (List Call)). c.transactions.calls-index < length xs) c.items-calls-items.ensures c.transactions-test.true) in
    let is = (subst (λ (x : List Call). get_or c.args.script.now.txns c.transactions.calls-index x ≡ x) (sym c.items.ensures) (sym (c.calls-item.is ∙ ap (λ (xs : List (List Call)). get_or xs c.transactions.calls-index c.calls-item.result) c.items-calls-items.ensures))) in (
      c.transact.ensures.of,
      script-next c.args.pass.now.view c.transactions.pass.view c.transact.new.pass.view c.args.script.now.txns c.transactions.calls-index _ within is i.1 made.0,
      made.1,
      c.in_default.ensures.refused ∙ i.3,
    )

pub returns-clause-does : goal.returns-clause-does
returns-clause-does g c =
    let i = c.transactions.invariant in
    does-all c.args.pass.now.view c.transactions.pass.view c.args.script.now.txns i.2 (script-over c.args.pass.now.view c.transactions.pass.view c.args.script.now.txns c.transactions.calls-index (subst (λ (xs : List (List Call)). length xs ≤ c.transactions.calls-index) c.items-calls-items.ensures c.transactions-test.false) i.1)
