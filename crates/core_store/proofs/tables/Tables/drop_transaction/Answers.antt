use Rattle.std.proofs.Common.{length, sym, ap, arith}
use Rattle.core_store.specs.Tables.{owed_by}
use Rattle.core_store.specs.Transactions.{Running}
use Rattle.core_store.proofs.MapLaws.{owed-removed, owed-least, same_running}
use Rattle.core_store.proofs.tables.Tables.drop_transaction.Goals as goal

pub overflow_sub-self : goal.overflow_sub-self
overflow_sub-self g c =
    let least = owed-least c.args.pass c.in-Some.transaction c.args.self.now.transactions.entries (sym c.in-Some.ensures.value) in
    omega (arith, least, c.args.self.now.owes, c.left.ensures)

pub overflow_sub-self-in-Some : goal.overflow_sub-self-in-Some
overflow_sub-self-in-Some g c =
    let least = owed-least c.args.pass c.in-Some.transaction c.args.self.now.transactions.entries (sym c.in-Some.ensures.value) in
    omega (arith, least, c.args.self.now.owes, c.left.ensures)

pub invariant_of-self-clause-owes : goal.invariant_of-self-clause-owes
invariant_of-self-clause-owes g c =
    let e = owed-removed c.args.pass c.in-Some.transaction c.args.self.now.transactions.entries (sym c.in-Some.ensures.value) in
    let n = ap owed_by c.in-Some.ensures.entries in
    omega (arith, e, n, c.args.self.now.owes, c.left.ensures)

pub returns-in-Some-clause-least : goal.returns-in-Some-clause-least
returns-in-Some-clause-least g c = λ t e.
    let same = ap (λ (x : Running). length x.replaced) (same_running _ t c.in-Some.transaction e (sym c.in-Some.ensures.value)) in
    let least = owed-least c.args.pass c.in-Some.transaction c.args.self.now.transactions.entries (sym c.in-Some.ensures.value) in
    omega (arith, same, least, c.args.self.now.owes, c.left.ensures)
