use Rattle.std.proofs.Common.{refl, ap, subst, arith}
use Rattle.core_store.specs.Tables.{owed_by}
use Rattle.core_store.specs.Transactions.{Running}
use Rattle.core_store.specs.Views.{view_of}
use Rattle.core_store.proofs.MapLaws.{PutsAt, owed-inserted}
use Rattle.core_store.proofs.HandlerLaws.{does-begin}
use Rattle.core_store.proofs.tables.Tables.begin.Goals as goal

pub invariant_of-self-2-clause-owes : goal.invariant_of-self-2-clause-owes
invariant_of-self-2-clause-owes g c =
    let entries = ap owed_by c.in_ok-insert.ensures.entries in
    let more = owed-inserted c.args.pass c.new.result c.args.self.now.transactions.entries c.in_ok-insert.ensures.was_ordered c.requires.none in
    let nothing = ap (λ (t : Running). Rattle.std.proofs.Common.length t.replaced) c.new.ensures in
    omega (arith, entries, more, nothing, c.args.self.now.owes)

pub returns-clause-ok : goal.returns-clause-ok
returns-clause-ok g c = λ held.
    let put : PutsAt c.args.self.now.transactions.entries c.insert.new.self.entries c.args.pass c.new.result = record { here = c.in_ok-insert.ensures.here; others = c.in_ok-insert.ensures.others } in
    does-begin (view_of c.args.self.now) held c.args.pass _ _ (subst (λ (t : Running). PutsAt c.args.self.now.transactions.entries c.insert.new.self.entries c.args.pass t) c.new.ensures put) refl
