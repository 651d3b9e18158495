use Rattle.std.proofs.Common.{◌<◌, Option, Some, length, refl, sym, ap, ◌∙◌, arith}
use Rattle.restart_laws.specs.Unended.{Unended}
use Rattle.log_replay.proofs.RowLaws.{read, none-more, first-at, first-none}
use Rattle.log_replay.proofs.transactions.first.Goals as goal

pub returns-in-Some-clause-some : goal.returns-in-Some-clause-some
returns-in-Some-clause-some c =
    let rows = c.args.rows.now.items in
    let within : c.loop-pass.pass < length rows = omega (arith, c.loop-pass-test.true, c.len-pass-end.ensures) in
    first-at rows c.loop-pass.pass c.in-Some.transaction.now c.loop-pass.invariant (read rows rows c.loop-pass.pass c.index.result.now refl within c.index.ensures ∙ ap (λ (o : Option Unended). Some o) (sym c.in-Some.ensures.value))

pub loop-pass-preserved : goal.loop-pass-preserved
loop-pass-preserved c =
    let rows = c.args.rows.now.items in
    let within : c.loop-pass.pass < length rows = omega (arith, c.loop-pass-test.true, c.len-pass-end.ensures) in
    none-more rows c.loop-pass.pass c.loop-pass.invariant (read rows rows c.loop-pass.pass c.index.result.now refl within c.index.ensures ∙ ap (λ (o : Option Unended). Some o) (sym c.in_default.ensures.value))

pub returns-clause-none : goal.returns-clause-none
returns-clause-none c =
    first-none c.args.rows.now.items (λ q l. c.loop-pass.invariant q (omega (arith, l, c.loop-pass-test.false, c.len-pass-end.ensures)))
