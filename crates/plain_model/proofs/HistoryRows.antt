-- Worked histories: each entry is shown to be allowed, or not to be.
use Rattle.std.proofs.Common.{◌≡◌, ◌≢◌, ℕ, zero, suc, ◌<◌, List, [], ◌∷◌, Some, None, refl, sym, subst, arith, true, false, inl}
use Rattle.std.specs.Prelude.{Contains, slice_index_or, if◌then◌else◌, replicate, ◌==◌}
use Rattle.std.specs.List.{AllByRecursion}
use Rattle.plain_model.specs.declared.object.Object.{Object}
use Rattle.plain_model.specs.declared.calls.Call.{Call as TransactionCall}
use Rattle.plain_model.specs.declared.calls.Call.TheVariants.{Begin, Make, Store, GetPay, SetPay, Commit, Abort}
use Rattle.plain_model.specs.declared.calls.Reply.{Reply}
use Rattle.plain_model.specs.declared.calls.Reply.TheVariants.{Done, Id, Pay, Busy}
use Rattle.plain_model.specs.declared.calls.Entry.{Entry}
use Rattle.plain_model.specs.declared.calls.Entry.TheVariants.{Call, Delete, Undo, TurnBusy}
use Rattle.plain_model.specs.declared.write.Place.TheVariants.{Whole}
use Rattle.plain_model.specs.Graphs.{root, blank, object_at}
use Rattle.plain_model.specs.Machine.{step}
use Rattle.plain_model.specs.Reachable.{Reachable, start, step as reach_step}
use Rattle.plain_model.specs.Outcomes.{outcome, held_references, IsReachableInSomeOutcome}
use Rattle.plain_model.specs.History.{History, Moment, IsLegal, IsAllowed, end_of, is_stopped}
use Rattle.plain_model.proofs.ReachableLaws.{Reachable-least}

-- a store of eight ids that opens with the root alone, and these entries
abbrev pub opened_with : List Entry → History
opened_with es = record { ids = 8; slots = 6; opening = blank 6 root ∷ []; entries = es }

-- the machine's reply to a call that is no abort is allowed
pub answered : (m : Moment) (pass : ℕ) (call : TransactionCall) (reply : Reply) → is_stopped m ≡ false → reply ≡ (step m.state pass call).0 → call ≢ Abort → IsAllowed m (Call pass call reply)
answered m pass call reply running e n = (running, record { machine = inl e; undone = λ a d. absurd (n a) })

-- ---- an object is made, linked and committed

abbrev pub linking : List Entry
linking = Call 1 Begin Done ∷ Call 1 (Make 1) (Id 2) ∷ Call 1 (Store 0 0 (Some 1)) Done ∷ Call 1 Commit Done ∷ []

-- the root names object 2
abbrev pub linked_graph : List Object
linked_graph = record { id = 1; slots = 2 ∷ 0 ∷ 0 ∷ 0 ∷ 0 ∷ 0 ∷ []; payload = 0 } ∷ blank 6 2 ∷ []

linking-legal : IsLegal (opened_with linking)
unfolding step
linking-legal = (
  answered _ 1 Begin Done refl refl (λ e. cc),
  (answered _ 1 (Make 1) (Id 2) refl refl (λ e. cc), (answered _ 1 (Store 0 0 (Some 1)) Done refl refl (λ e. cc), (answered _ 1 Commit Done refl refl (λ e. cc), tt))),
)

linking-graph : (end_of (opened_with linking)).state.committed ≡ linked_graph
unfolding step
linking-graph = refl

-- ---- client 2 removes the only reference to object 2, undoes that, and aborts

abbrev pub removing : List Entry
removing = Call 1 Begin Done ∷ Call 1 (Make 1) (Id 2) ∷ Call 1 (Store 0 0 (Some 1)) Done ∷ Call 1 Commit Done ∷ Call 2 Begin Done ∷ Call 2 (Store 0 0 None) Done ∷ []

abbrev pub removal_undone : List Entry
removal_undone =
    Call 1 Begin Done ∷ Call 1 (Make 1) (Id 2) ∷ Call 1 (Store 0 0 (Some 1)) Done ∷ Call 1 Commit Done ∷ Call 2 Begin Done ∷ Call 2 (Store 0 0 None) Done ∷ TurnBusy 2 ∷ Undo 2 ∷ Call 2 Abort Done ∷ []

removal_undone-legal : IsLegal (opened_with removal_undone)
unfolding step
removal_undone-legal = (
  answered _ 1 Begin Done refl refl (λ e. cc),
  (
    answered _ 1 (Make 1) (Id 2) refl refl (λ e. cc),
    (
      answered _ 1 (Store 0 0 (Some 1)) Done refl refl (λ e. cc),
      (
        answered _ 1 Commit Done refl refl (λ e. cc),
        (
          answered _ 2 Begin Done refl refl (λ e. cc),
          (answered _ 2 (Store 0 0 None) Done refl refl (λ e. cc), ((refl, refl), ((refl, one_left), ((refl, record { machine = inl refl; undone = λ a d. refl }), tt)))),
        ),
      ),
    ),
  ),
)
  where
    one_left : 0 < 1
    one_left = omega arith

-- the committed graph is as it was before
removal_undone-graph : (end_of (opened_with removal_undone)).state.committed ≡ linked_graph
unfolding step
removal_undone-graph = refl

zero_or_one : zero ≡ suc zero → ⊥
zero_or_one e = cc

-- an abort before the undo isn't allowed
too_early : IsAllowed (end_of (opened_with removing)) (Call 2 Abort Done) → ⊥
unfolding step
too_early a = zero_or_one (a.1.undone refl refl)

-- ---- object 2 is reachable in the outcome in which client 2 aborts, and not in the one in which it commits

abbrev one_remover : Moment
one_remover = end_of (opened_with removing)

reached_where_it_aborts : Reachable (outcome one_remover.state (λ _. false)) (held_references one_remover.state) 2
unfolding step
reached_where_it_aborts =
    reach_step 1 2 (record { id = 1; slots = 2 ∷ 0 ∷ 0 ∷ 0 ∷ 0 ∷ 0 ∷ []; payload = 0 }) (blank 6 2) (start 1 (record { id = 1; slots = 2 ∷ 0 ∷ 0 ∷ 0 ∷ 0 ∷ 0 ∷ []; payload = 0 }) (0, omega arith, refl) refl) refl (0, omega arith, refl) (λ e. cc) refl

reached_in_some_outcome : IsReachableInSomeOutcome one_remover.state 2
reached_in_some_outcome = ((λ _. false), reached_where_it_aborts)

-- where every slot is null, nothing is reached but what it starts from
null_slots : (g : List Object) (starts : List ℕ) → AllByRecursion (λ o. o.slots ≡ 0 ∷ 0 ∷ 0 ∷ 0 ∷ 0 ∷ 0 ∷ []) g → (x : ℕ) → Reachable g starts x → Contains starts x
null_slots g starts null x r = Reachable-least g starts (Contains starts) (record { starts = λ x o c e. c; steps = λ x y o p q e c n f. absurd (n (zero_in o.slots y (slots_at g null x o e) c)) }) r
  where
    slots_at : (g : List Object) → AllByRecursion (λ o. o.slots ≡ 0 ∷ 0 ∷ 0 ∷ 0 ∷ 0 ∷ 0 ∷ []) g → (x : ℕ) (o : Object) → object_at g x ≡ Some o → o.slots ≡ 0 ∷ 0 ∷ 0 ∷ 0 ∷ 0 ∷ 0 ∷ []
    slots_at [] a x o e = absurd (cc)
    slots_at (p ∷ ps) a x o e =
        elim (p.id == x) as (λ b. (if b then Some p else object_at ps x) ≡ Some o → o.slots ≡ 0 ∷ 0 ∷ 0 ∷ 0 ∷ 0 ∷ 0 ∷ []) [ true ↦ λ f. let same : p ≡ o = cc in subst (λ (z : Object). z.slots ≡ 0 ∷ 0 ∷ 0 ∷ 0 ∷ 0 ∷ 0 ∷ []) same a.0 | false ↦ λ f. slots_at ps a.1 x o f ] e

    zero_at : (k y : ℕ) → slice_index_or {A = ℕ} (0 ∷ 0 ∷ 0 ∷ 0 ∷ 0 ∷ 0 ∷ []) k y ≡ y → k < 6 → y ≡ 0
    zero_at zero y e l = sym e
    zero_at (suc zero) y e l = sym e
    zero_at (suc (suc zero)) y e l = sym e
    zero_at (suc (suc (suc zero))) y e l = sym e
    zero_at (suc (suc (suc (suc zero)))) y e l = sym e
    zero_at (suc (suc (suc (suc (suc zero))))) y e l = sym e
    zero_at (suc (suc (suc (suc (suc (suc k)))))) y e l = absurd (omega arith)

    zero_in : (ss : List ℕ) (y : ℕ) → ss ≡ 0 ∷ 0 ∷ 0 ∷ 0 ∷ 0 ∷ 0 ∷ [] → Contains ss y → y ≡ 0
    zero_in ss y e c = let d = subst (λ zs. Contains zs y) e c in zero_at d.0 y d.2 d.1

held_is_root : Contains {X = ℕ} (1 ∷ 1 ∷ []) 2 → ⊥
held_is_root c = by c.0 c.1 c.2
  where
    by : (k : ℕ) → k < 2 → slice_index_or {A = ℕ} (1 ∷ 1 ∷ []) k 2 ≡ 2 → ⊥
    by zero l e = cc
    by (suc zero) l e = cc
    by (suc (suc k)) l e = omega arith

unreached_where_it_commits : Reachable (outcome one_remover.state (λ p. p == 2)) (held_references one_remover.state) 2 → ⊥
unfolding step
unreached_where_it_commits r = held_is_root (null_slots (outcome one_remover.state (λ p. p == 2)) (held_references one_remover.state) (refl, (refl, tt)) 2 r)

-- so it may not be deleted
may_not_delete : IsAllowed one_remover (Delete 2) → ⊥
may_not_delete a = a.2 reached_in_some_outcome

-- ---- deletions

-- an object whose maker aborted is deleted, and its id is given out again
abbrev pub deleting : List Entry
deleting = Call 1 Begin Done ∷ Call 1 (Make 1) (Id 2) ∷ Call 1 Abort Done ∷ Delete 2 ∷ Call 2 Begin Done ∷ Call 2 (Make 1) (Id 2) ∷ []

abbrev nobody_holds : Moment
nobody_holds = end_of (opened_with (Call 1 Begin Done ∷ Call 1 (Make 1) (Id 2) ∷ Call 1 Abort Done ∷ []))

root_alone : Contains {X = ℕ} (1 ∷ []) 2 → ⊥
root_alone c = by c.0 c.1 c.2
  where
    by : (k : ℕ) → k < 1 → slice_index_or {A = ℕ} (1 ∷ []) k 2 ≡ 2 → ⊥
    by zero l e = cc
    by (suc k) l e = omega arith

may_delete : IsAllowed nobody_holds (Delete 2)
unfolding step
may_delete = (
  refl,
  (1, omega arith, refl),
  (λ n. root_alone (null_slots (outcome nobody_holds.state n.0) (held_references nobody_holds.state) (refl, tt) 2 n.1)),
  λ pass t e. absurd (cc),
)

deleting-legal : IsLegal (opened_with deleting)
unfolding step
deleting-legal = (
  answered _ 1 Begin Done refl refl (λ e. cc),
  (
    answered _ 1 (Make 1) (Id 2) refl refl (λ e. cc),
    ((refl, record { machine = inl refl; undone = λ a d. refl }), (may_delete, (answered _ 2 Begin Done refl refl (λ e. cc), (answered _ 2 (Make 1) (Id 2) refl refl (λ e. cc), tt)))),
  ),
)

-- the client that made object 2 still holds it, although no register names it
abbrev dropped : Moment
dropped = end_of (opened_with (Call 1 Begin Done ∷ Call 1 (Make 1) (Id 2) ∷ Call 1 (Make 1) (Id 3) ∷ []))

may_not_delete_held : IsAllowed dropped (Delete 2) → ⊥
unfolding step
may_not_delete_held a = let e : true ≡ false = a.3 1 (record { writes = record { id = 2; place = Whole; value = 0 } ∷ record { id = 3; place = Whole; value = 0 } ∷ []; shared = []; owned = 2 ∷ 3 ∷ []; registers = Some 1 ∷ Some 3 ∷ replicate 6 None; aborting = false }) refl in cc

-- ---- two clients and a lock

-- client 2 is refused the object that client 1 owns, until client 1 has committed
locking : List Entry
locking = Call 1 Begin Done ∷ Call 2 Begin Done ∷ Call 1 (SetPay 0 5) Done ∷ Call 2 (GetPay 0) (Busy 1) ∷ Call 1 Commit Done ∷ Call 2 (GetPay 0) (Pay 5) ∷ Call 2 Commit Done ∷ []

locking-legal : IsLegal (opened_with locking)
unfolding locking step
locking-legal = (
  answered _ 1 Begin Done refl refl (λ e. cc),
  (
    answered _ 2 Begin Done refl refl (λ e. cc),
    (
      answered _ 1 (SetPay 0 5) Done refl refl (λ e. cc),
      (answered _ 2 (GetPay 0) (Busy 1) refl refl (λ e. cc), (answered _ 1 Commit Done refl refl (λ e. cc), (answered _ 2 (GetPay 0) (Pay 5) refl refl (λ e. cc), (answered _ 2 Commit Done refl refl (λ e. cc), tt)))),
    ),
  ),
)
