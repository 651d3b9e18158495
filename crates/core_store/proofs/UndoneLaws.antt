-- How many writes of a transaction are left to undo, and what the next undo step lays again.
use Rattle.std.proofs.Common.{◌≡◌, ℕ, [], sym, ap, ◌∙◌, Option, Some, None, arith, length}
use Rattle.std.specs.Prelude.{count_by, take}
use Rattle.std.specs.Option.{option_map_or}
use Rattle.std.specs.List.{last_or}
use Rattle.plain_model.specs.ActiveTransaction.{ActiveTransaction}
use Rattle.plain_model.specs.Machine.{transaction_of}
use Rattle.plain_model.specs.History.{Moment, can_be_undone, undoable, left_to_undo}
use Rattle.core_store.specs.Replaced.{replaced, next_to_restore}
use Rattle.core_store.specs.Transactions.{Running}
use Rattle.core_store.specs.Stands.{IsRunning}

pub left-kept : (slots : ℕ) (m : Moment) (pass : ℕ) (kept : Running) (t : ActiveTransaction) → transaction_of m.state pass ≡ Some t → IsRunning slots m.state.committed kept t (m.undone pass) → left_to_undo m pass ≡ length kept.replaced
left-kept slots m pass kept t found runs =
    let count : undoable m.state pass ≡ count_by can_be_undone t.writes = ap (λ o. option_map_or (λ (t : ActiveTransaction). count_by can_be_undone t.writes) o 0) found in
    let left = runs.left in
    omega (arith, left, count)

pub next-kept : (slots : ℕ) (m : Moment) (pass : ℕ) (kept : Running) (t : ActiveTransaction) → m.state.slots ≡ slots → transaction_of m.state pass ≡ Some t → IsRunning slots m.state.committed kept t (m.undone pass) → next_to_restore m pass ≡ last_or None kept.replaced
next-kept slots m pass kept t size found runs =
    ap (last_or None)
    (ap (λ (o : Option ActiveTransaction). option_map_or (λ (t : ActiveTransaction). take (left_to_undo m pass) (replaced m.state.slots m.state.committed t.writes)) o []) found
    ∙ (ap (λ n. take n (replaced m.state.slots m.state.committed t.writes)) (left-kept slots m pass kept t found runs)
    ∙ (ap (λ k. take (length kept.replaced) (replaced k m.state.committed t.writes)) size ∙ sym runs.replaced)))
