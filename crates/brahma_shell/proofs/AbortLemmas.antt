-- An abort undoes one write after another.
use Rattle.std.proofs.Common.{◌≡◌, ℕ, ◌+◌, ◌<◌, Bool, true, false, ◌==◌, cond, List, [], ◌∷◌, Option, Some, None, replicate, refl, subst, arith}
use Rattle.std.specs.Prelude.{IsSome}
use Rattle.std.specs.Map.{lookup, set_value}
use Rattle.std.specs.Ordering.{nat_cmp}
use Rattle.std.specs.BTreeMap.{is_at}
use Rattle.std.proofs.lemmas.Bool.Decides.{nat_tests}
use Rattle.std.proofs.lemmas.List.{replicate_more}
use Rattle.plain_model.specs.declared.calls.Entry.TheVariants.{Undo}
use Rattle.plain_model.specs.ActiveTransaction.{ActiveTransaction}
use Rattle.plain_model.specs.Machine.{State, transaction_of}
use Rattle.plain_model.specs.History.{Moment, next, after_undo, undoable, left_to_undo}
use Rattle.core_store.specs.JournalView.{JournalView}
use Rattle.brahma_shell.specs.Growth.{GrowsBy}
use Rattle.brahma_shell.proofs.GrowthLemmas.{GrowsBy-trans}

lookup-set_same : (test : ℕ → Bool) (es : List (ℕ × ActiveTransaction)) (v w : ActiveTransaction) → lookup test es ≡ Some v → lookup test (set_value test es w) ≡ Some w
lookup-set_same test [] v w h = cc
lookup-set_same test (e ∷ es) v w h =
    elim (test e.0) as (λ t. test e.0 ≡ t → cond t (Some e.1) (lookup test es) ≡ Some v → lookup test (cond t ((e.0, w) ∷ es) (e ∷ set_value test es w)) ≡ Some w) [
      | true ↦ λ t f. rw t
      | false ↦ λ t f. rw t (lookup-set_same test es v w f)
    ] refl h

some_of : (o : Option ActiveTransaction) → IsSome o → (t : ActiveTransaction) × (o ≡ Some t)
some_of None h = cc
some_of (Some t) h = (t, refl)

-- the client's transaction stays, with its writes
stays : (s : State) (client : ℕ) (t : ActiveTransaction) → transaction_of s client ≡ Some t → transaction_of (after_undo s client) client ≡ Some (record t { aborting = true })
stays s client t e = rw e (lookup-set_same (is_at (nat_cmp client)) s.active t (record t { aborting = true }) e)

pub still_active : (s : State) (client : ℕ) → IsSome (transaction_of s client) → IsSome (transaction_of (after_undo s client) client)
still_active s client h = let t = some_of (transaction_of s client) h in rw (stays s client t.0 t.1) refl

undoable-undo : (s : State) (client : ℕ) (t : ActiveTransaction) → transaction_of s client ≡ Some t → undoable (after_undo s client) client ≡ undoable s client
undoable-undo s client t e = rw (stays s client t e, e)

-- one write less is left to undo
pub left_to_undo-undo : (m : Moment) (client : ℕ) → IsSome (transaction_of m.state client) → 0 < left_to_undo m client → left_to_undo (next m (Undo client)) client + 1 ≡ left_to_undo m client
left_to_undo-undo m client h l =
    let t = some_of (transaction_of m.state client) h in
    let e = undoable-undo m.state client t.0 t.1 in
    let u : cond (client == client) (m.undone client + 1) (m.undone client) ≡ m.undone client + 1 = grind (arith, nat_tests) in
    rw (e, u) (omega (arith, l))

-- where no transaction is, nothing is left to undo
pub left_to_undo-none : (m : Moment) (client : ℕ) → transaction_of m.state client ≡ None → left_to_undo m client ≡ 0
left_to_undo-none m client e = rw e (omega arith)

-- one undo more, after some
pub with_undos : (a b d : JournalView) (client k : ℕ) → GrowsBy a b (replicate k (Undo client)) → GrowsBy b d (Undo client ∷ []) → GrowsBy a d (replicate (k + 1) (Undo client))
with_undos a b d client k g h = subst (GrowsBy a d) (replicate_more k (Undo client)) (GrowsBy-trans a b d (replicate k (Undo client)) (Undo client ∷ []) g h)
