use Rattle.std.proofs.Common.{refl, sym, ap, subst, ◌∙◌, ◌+◌, Option, Some, arith, slice_set, nat_cmp}
use Rattle.std.specs.BTreeMap.{insert_entry}
use Rattle.core_store.specs.Transactions.{Running, running_at}
use Rattle.core_store.specs.TransactionRows.{entries_of, AreRowsInside}
use Rattle.core_store.proofs.TransactionRowLaws.{Entries, read, ordered, found-set, found-other, entries-inserted, inside-opened, inside-set, inside-added, length-entries, was-empty, was-full}
use Rattle.core_store.proofs.transactions.Transactions.insert.Goals as goal

pub returns-in_err-open-clause-was_ordered : goal.returns-in_err-open-clause-was_ordered
returns-in_err-open-clause-was_ordered c = rw (← c.self.view_is) (ordered c.self.inside.rows.items)

pub overflow_add-self : goal.overflow_add-self
overflow_add-self c = let n = length-entries c.self.inside.rows.items in omega (arith, n, c.self.invariant.counted, c.self.invariant.few)

pub invariant_of-self-then-put : goal.invariant_of-self-then-put
invariant_of-self-then-put c =
    let rows = c.open.new.rows.items in
    let empty = read rows rows c.args.pass c.index_mut.result.now refl c.in_ok-open.ensures.opened c.index_mut.ensures.value ∙ ap (λ (o : Option Running). Some o) (was-empty c.index_mut.result.now c.put.result c.put.ensures.empty c.if-put.true) in
    subst (λ (o : Option Running). AreRowsInside (slice_set rows c.args.pass o) (c.self.inside.count + 1)) (sym c.put.ensures.after) (inside-added rows c.self.inside.count c.args.pass c.args.transaction empty (inside-opened c.self.inside.rows.items rows c.self.inside.count c.in_ok-open.ensures.same c.in_ok-open.ensures.few c.self.invariant))

pub invariant_of-self-else-put : goal.invariant_of-self-else-put
invariant_of-self-else-put c =
    let rows = c.open.new.rows.items in
    let old = was-full c.index_mut.result.now c.put.result c.put.ensures.empty c.if-put.false in
    subst (λ (o : Option Running). AreRowsInside (slice_set rows c.args.pass o) c.self.inside.count) (sym c.put.ensures.after) (inside-set rows c.self.inside.count c.args.pass old.0 c.args.transaction (read rows rows c.args.pass c.index_mut.result.now refl c.in_ok-open.ensures.opened c.index_mut.ensures.value ∙ ap (λ (o : Option Running). Some o) old.1) (inside-opened c.self.inside.rows.items rows c.self.inside.count c.in_ok-open.ensures.same c.in_ok-open.ensures.few c.self.invariant))

pub returns-then-put-clause-entries : goal.returns-then-put-clause-entries
returns-then-put-clause-entries c =
    let rows = c.open.new.rows.items in
    rw (← c.self.view_is) (ap (λ (o : Option Running). entries_of (slice_set rows c.args.pass o)) c.put.ensures.after ∙ (entries-inserted rows c.args.pass c.args.transaction c.in_ok-open.ensures.opened ∙ ap (λ (es : Entries). insert_entry nat_cmp es c.args.pass c.args.transaction) c.in_ok-open.ensures.same))

pub returns-then-put-clause-here : goal.returns-then-put-clause-here
returns-then-put-clause-here c = found-set c.open.new.rows.items c.args.pass c.put.new.row c.in_ok-open.ensures.opened ∙ c.put.ensures.after

pub returns-then-put-clause-others : goal.returns-then-put-clause-others
returns-then-put-clause-others c = λ q n.
    rw (← c.self.view_is) (found-other c.open.new.rows.items c.args.pass c.put.new.row q n ∙ ap (λ (es : Entries). running_at es q) c.in_ok-open.ensures.same)

pub returns-then-put-clause-was_ordered : goal.returns-then-put-clause-was_ordered
returns-then-put-clause-was_ordered c = rw (← c.self.view_is) (ordered c.self.inside.rows.items)

pub returns-else-put-clause-entries : goal.returns-else-put-clause-entries
returns-else-put-clause-entries c =
    let rows = c.open.new.rows.items in
    rw (← c.self.view_is) (ap (λ (o : Option Running). entries_of (slice_set rows c.args.pass o)) c.put.ensures.after ∙ (entries-inserted rows c.args.pass c.args.transaction c.in_ok-open.ensures.opened ∙ ap (λ (es : Entries). insert_entry nat_cmp es c.args.pass c.args.transaction) c.in_ok-open.ensures.same))

pub returns-else-put-clause-here : goal.returns-else-put-clause-here
returns-else-put-clause-here c = found-set c.open.new.rows.items c.args.pass c.put.new.row c.in_ok-open.ensures.opened ∙ c.put.ensures.after

pub returns-else-put-clause-others : goal.returns-else-put-clause-others
returns-else-put-clause-others c = λ q n.
    rw (← c.self.view_is) (found-other c.open.new.rows.items c.args.pass c.put.new.row q n ∙ ap (λ (es : Entries). running_at es q) c.in_ok-open.ensures.same)

pub returns-else-put-clause-was_ordered : goal.returns-else-put-clause-was_ordered
returns-else-put-clause-was_ordered c = rw (← c.self.view_is) (ordered c.self.inside.rows.items)
