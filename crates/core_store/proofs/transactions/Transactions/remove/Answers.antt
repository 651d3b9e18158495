use Rattle.std.proofs.Common.{refl, sym, ap, subst, ◌∙◌, ◌-◌, Option, Some, slice_set}
use Rattle.core_store.specs.Transactions.{Running}
use Rattle.core_store.specs.TransactionRows.{entries_of, AreRowsInside}
use Rattle.core_store.proofs.TransactionRowLaws.{read, found-in, missed-in, found-set, found-other, entries-removed, removed-past, some-of, inside-some, inside-removed}
use Rattle.core_store.proofs.transactions.Transactions.remove.Goals as goal

pub overflow_sub-self : goal.overflow_sub-self
overflow_sub-self c =
    let rows = c.self.inside.rows.items in
    let t = some-of c.take-ended.result c.in-Some.row.now c.is_some.result c.take-ended.ensures.value c.is_some.ensures c.if-is_some.true in
    inside-some rows c.self.inside.count c.args.pass t.0 (read rows rows c.args.pass c.in-Some.row.now refl c.in-Some.ensures.item.3.0 c.in-Some.ensures.item.1 ∙ ap (λ (o : Option Running). Some o) t.1) c.self.invariant

pub invariant_of-self : goal.invariant_of-self
invariant_of-self c =
    let rows = c.self.inside.rows.items in
    let t = some-of c.take-ended.result c.in-Some.row.now c.is_some.result c.take-ended.ensures.value c.is_some.ensures c.if-is_some.true in
    subst (λ (o : Option Running). AreRowsInside (slice_set rows c.args.pass o) (c.self.inside.count - 1)) (sym c.take-ended.ensures.after) (inside-removed rows c.self.inside.count c.args.pass t.0 (read rows rows c.args.pass c.in-Some.row.now refl c.in-Some.ensures.item.3.0 c.in-Some.ensures.item.1 ∙ ap (λ (o : Option Running). Some o) t.1) c.self.invariant)

pub returns-then-is_some-clause-value : goal.returns-then-is_some-clause-value
returns-then-is_some-clause-value c =
    let rows = c.self.inside.rows.items in
    rw (← c.self.view_is) (c.take-ended.ensures.value ∙ sym (found-in rows rows c.args.pass c.in-Some.row.now refl c.in-Some.ensures.item.3.0 c.in-Some.ensures.item.1))

pub returns-then-is_some-clause-entries : goal.returns-then-is_some-clause-entries
returns-then-is_some-clause-entries c =
    let rows = c.self.inside.rows.items in
    rw (← c.self.view_is) (ap (λ (o : Option Running). entries_of (slice_set rows c.args.pass o)) c.take-ended.ensures.after ∙ entries-removed rows c.args.pass)

pub returns-then-is_some-clause-here : goal.returns-then-is_some-clause-here
returns-then-is_some-clause-here c = found-set c.self.inside.rows.items c.args.pass c.take-ended.new.self c.in-Some.ensures.item.3.0 ∙ c.take-ended.ensures.after

pub returns-then-is_some-clause-others : goal.returns-then-is_some-clause-others
returns-then-is_some-clause-others c = λ q n. rw (← c.self.view_is) (found-other c.self.inside.rows.items c.args.pass c.take-ended.new.self q n)

pub returns-else-is_some-clause-value : goal.returns-else-is_some-clause-value
returns-else-is_some-clause-value c =
    let rows = c.self.inside.rows.items in
    rw (← c.self.view_is) (c.take-ended.ensures.value ∙ sym (found-in rows rows c.args.pass c.in-Some.row.now refl c.in-Some.ensures.item.3.0 c.in-Some.ensures.item.1))

pub returns-else-is_some-clause-entries : goal.returns-else-is_some-clause-entries
returns-else-is_some-clause-entries c =
    let rows = c.self.inside.rows.items in
    rw (← c.self.view_is) (ap (λ (o : Option Running). entries_of (slice_set rows c.args.pass o)) c.take-ended.ensures.after ∙ entries-removed rows c.args.pass)

pub returns-else-is_some-clause-here : goal.returns-else-is_some-clause-here
returns-else-is_some-clause-here c = found-set c.self.inside.rows.items c.args.pass c.take-ended.new.self c.in-Some.ensures.item.3.0 ∙ c.take-ended.ensures.after

pub returns-in-None-clause-value : goal.returns-in-None-clause-value
returns-in-None-clause-value c =
    let rows = c.self.inside.rows.items in
    rw (← c.self.view_is) (sym (missed-in rows rows c.args.pass refl c.in-None.ensures.item.3))

pub returns-in-None-clause-entries : goal.returns-in-None-clause-entries
returns-in-None-clause-entries c =
    let rows = c.self.inside.rows.items in
    rw (← c.self.view_is) (removed-past rows c.args.pass c.in-None.ensures.item.3)

pub returns-in-None-clause-here : goal.returns-in-None-clause-here
returns-in-None-clause-here c =
    let rows = c.self.inside.rows.items in
    missed-in rows rows c.args.pass refl c.in-None.ensures.item.3
