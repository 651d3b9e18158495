use Rattle.std.proofs.Common.{refl, sym, ap, ◌∙◌, ◌<◌, length, Option, Some, arith}
use Rattle.core_store.specs.Transactions.{Running}
use Rattle.core_store.proofs.TransactionRowLaws.{read, some-of, none-of, none-more, first-at, first-none}
use Rattle.core_store.proofs.transaction_rows.first.Goals as goal

pub returns-then-is_some : goal.returns-then-is_some
returns-then-is_some c =
    let rows = c.args.rows.now.items in
    let within : c.loop-pass.pass < length rows = omega (arith, c.loop-pass-test.true, c.len-pass-end.ensures) in
    let t = some-of c.index.result.now c.index.result.now c.is_some.result refl c.is_some.ensures c.if-is_some.true in
    sym (first-at rows c.loop-pass.pass t.0 c.loop-pass.invariant (read rows rows c.loop-pass.pass c.index.result.now refl within c.index.ensures ∙ ap (λ (o : Option Running). Some o) t.1))

pub loop-pass-preserved : goal.loop-pass-preserved
loop-pass-preserved c =
    let rows = c.args.rows.now.items in
    let within : c.loop-pass.pass < length rows = omega (arith, c.loop-pass-test.true, c.len-pass-end.ensures) in
    let n = none-of c.index.result.now c.index.result.now c.is_some.result refl c.is_some.ensures c.if-is_some.false in
    none-more rows c.loop-pass.pass c.loop-pass.invariant (read rows rows c.loop-pass.pass c.index.result.now refl within c.index.ensures ∙ ap (λ (o : Option Running). Some o) n)

pub returns : goal.returns
returns c =
    let rows = c.args.rows.now.items in
    sym (first-none rows (λ q l. c.loop-pass.invariant q (omega (arith, l, c.loop-pass-test.false, c.len-pass-end.ensures))))
