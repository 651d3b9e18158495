-- How what is owed changes where one client's transaction changes, begins or ends.
use Rattle.std.proofs.Common.{◌≡◌, ◌≢◌, ℕ, ◌+◌, ◌-◌, List, sym, ap, ◌∙◌, subst, Option, Some, None, arith, length}
use Rattle.std.specs.Prelude.{count_by}
use Rattle.std.specs.Option.{option_map_or}
use Rattle.plain_model.specs.declared.object.Object.{Object}
use Rattle.plain_model.specs.ActiveTransaction.{ActiveTransaction}
use Rattle.plain_model.specs.Machine.{transaction_of}
use Rattle.plain_model.specs.History.{Moment, can_be_undone, left_to_undo}
use Rattle.plain_laws.specs.Sound.{PassesAscend}
use Rattle.core_store.specs.Owed.{entries_owed}
use Rattle.core_store.specs.Transactions.{Running}
use Rattle.core_store.specs.Stands.{IsRunning}
use Rattle.core_store.proofs.OwedSums.{owed_in, owed_at, owed_by_others, owed-split, others-owe}
use Rattle.core_store.proofs.UndoneLaws.{left-kept}

-- what the client of this transaction owes
owed-found : (weight : ℕ → ℕ) (m : Moment) (pass : ℕ) (t : ActiveTransaction) → transaction_of m.state pass ≡ Some t → owed_at weight m.undone pass (transaction_of m.state pass) ≡ weight (left_to_undo m pass)
owed-found weight m pass t e =
    ap (owed_at weight m.undone pass) e
    ∙ sym (ap (λ (o : Option ActiveTransaction). weight (option_map_or (λ t. count_by can_be_undone t.writes) o 0 - m.undone pass)) e)

owed-none : (weight : ℕ → ℕ) (m : Moment) (pass : ℕ) → transaction_of m.state pass ≡ None → owed_at weight m.undone pass (transaction_of m.state pass) ≡ 0
owed-none weight m pass e = ap (owed_at weight m.undone pass) e

-- from a moment to another, the transactions of the other clients and the counts of their undone writes stay
module _ (m n : Moment) (pass : ℕ) (a : PassesAscend m.state.active) (b : PassesAscend n.state.active) (others : (q : ℕ) → q ≢ pass → transaction_of n.state q ≡ transaction_of m.state q) (counts : (q : ℕ) → q ≢ pass → n.undone q ≡ m.undone q) where
  rest-same : (weight : ℕ → ℕ) → owed_by_others weight n pass ≡ owed_by_others weight m pass
  rest-same weight = others-owe weight m n pass a b others counts

  -- this client's transaction changes
  pub owed-change : (weight : ℕ → ℕ) (t u : ActiveTransaction) → transaction_of m.state pass ≡ Some t → transaction_of n.state pass ≡ Some u → owed_in weight n + weight (left_to_undo m pass) ≡ owed_in weight m + weight (left_to_undo n pass)
  owed-change weight t u e f =
      let x = owed-split weight m pass a in
      let y = owed-split weight n pass b in
      let p = owed-found weight m pass t e in
      let q = owed-found weight n pass u f in
      let r = rest-same weight in
      omega (arith, x, y, p, q, r)

  -- it begins
  pub owed-begun : (weight : ℕ → ℕ) (u : ActiveTransaction) → transaction_of m.state pass ≡ None → transaction_of n.state pass ≡ Some u → owed_in weight n ≡ owed_in weight m + weight (left_to_undo n pass)
  owed-begun weight u e f =
      let x = owed-split weight m pass a in
      let y = owed-split weight n pass b in
      let p = owed-none weight m pass e in
      let q = owed-found weight n pass u f in
      let r = rest-same weight in
      omega (arith, x, y, p, q, r)

  -- it ends
  pub owed-ended : (weight : ℕ → ℕ) (t : ActiveTransaction) → transaction_of m.state pass ≡ Some t → transaction_of n.state pass ≡ None → owed_in weight n + weight (left_to_undo m pass) ≡ owed_in weight m
  owed-ended weight t e f =
      let x = owed-split weight m pass a in
      let y = owed-split weight n pass b in
      let p = owed-found weight m pass t e in
      let q = owed-none weight n pass f in
      let r = rest-same weight in
      omega (arith, x, y, p, q, r)

  -- ---- in the words of the tables, which owe what they say

  -- the client's transaction changes, of which the tables keep this before and that after
  pub owed-kept : (slots : ℕ) (kept later : Running) (t u : ActiveTransaction) (g : List Object) → transaction_of m.state pass ≡ Some t → IsRunning slots m.state.committed kept t (m.undone pass)
      → transaction_of n.state pass ≡ Some u → n.state.committed ≡ g → IsRunning slots g later u (n.undone pass)
      → (v w : ℕ) → v ≡ entries_owed m → w + (length kept.replaced + 1) ≡ v + (length later.replaced + 1) → w ≡ entries_owed n
  owed-kept slots kept later t u g e runs f is runs2 v w was change =
      let x = owed-change (λ k. k + 1) t u e f in
      let p = left-kept slots m pass kept t e runs in
      let q = left-kept slots n pass later u f (subst (λ h. IsRunning slots h later u (n.undone pass)) (sym is) runs2) in
      omega (arith, x, p, q, was, change)

  -- it begins with nothing to undo
  pub owed-kept_begun : (slots : ℕ) (later : Running) (u : ActiveTransaction) (g : List Object) → transaction_of m.state pass ≡ None → transaction_of n.state pass ≡ Some u → n.state.committed ≡ g → IsRunning slots g later u (n.undone pass)
      → (v w : ℕ) → v ≡ entries_owed m → w ≡ v + (length later.replaced + 1) → w ≡ entries_owed n
  owed-kept_begun slots later u g e f is runs2 v w was change =
      let x = owed-begun (λ k. k + 1) u e f in
      let q = left-kept slots n pass later u f (subst (λ h. IsRunning slots h later u (n.undone pass)) (sym is) runs2) in
      omega (arith, x, q, was, change)

  -- it ends
  pub owed-kept_ended : (slots : ℕ) (kept : Running) (t : ActiveTransaction) → transaction_of m.state pass ≡ Some t → IsRunning slots m.state.committed kept t (m.undone pass) → transaction_of n.state pass ≡ None
      → (v w : ℕ) → v ≡ entries_owed m → w + (length kept.replaced + 1) ≡ v → w ≡ entries_owed n
  owed-kept_ended slots kept t e runs f v w was change =
      let x = owed-ended (λ k. k + 1) t e f in
      let p = left-kept slots m pass kept t e runs in
      omega (arith, x, p, was, change)
