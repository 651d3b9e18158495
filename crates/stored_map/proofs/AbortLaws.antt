-- An abort of the one transaction undoes one write after another, and ends it.
use Rattle.std.proofs.Common.{◌≡◌, ℕ, ◌+◌, ◌-◌, ◌<◌, true, List, [], ◌∷◌, Option, Some, None, refl, sym, ap, ◌∙◌, subst, arith}
use Rattle.std.specs.Prelude.{IsSome, count_by}
use Rattle.std.specs.Option.{option_map_or}
use Rattle.std.specs.Ordering.{nat_cmp}
use Rattle.std.specs.BTreeMap.{is_at}
use Rattle.std.specs.Map.{lookup}
use Rattle.plain_model.specs.declared.calls.Call.TheVariants.{Abort}
use Rattle.plain_model.specs.declared.calls.Reply.{Reply}
use Rattle.plain_model.specs.declared.calls.Reply.TheVariants.{Done}
use Rattle.plain_model.specs.declared.calls.Entry.TheVariants.{Undo, Call}
use Rattle.plain_model.specs.ActiveTransaction.{ActiveTransaction}
use Rattle.plain_model.specs.Machine.{State, transaction_of, without_transaction}
use Rattle.plain_model.specs.History.{Moment, next, after_undo, with_aborting, can_be_undone, undoable, left_to_undo}
use Rattle.plain_model.specs.History.{end_of}
use Rattle.plain_model.proofs.HistoryLemmas.{end_of-with_entry}
use Rattle.plain_model.proofs.StepLemmas.{step-abort}
use Rattle.core_store.specs.declared.abort_step.AbortStep.{AbortStep}
use Rattle.core_store.specs.declared.abort_step.AbortStep.TheVariants.{Undone as StepUndone, Ended as StepEnded}
use Rattle.core_store.specs.declared.marks.Marks.{Marks}
use Rattle.logged_journal.specs.View.{LoggedView}
use Rattle.logged_journal.specs.Calls.{DoesAbortStep, GoesOn, KeepsDisk}
use Rattle.object_map.specs.Seen.{IsAlone}
use Rattle.object_map.specs.Clients.{object_slots, free_ids}
use Rattle.stored_map.specs.Stores.{state_in}
use Rattle.stored_map.specs.Steps.{Stays, KeepsMarks}
use Rattle.stored_map.proofs.TransactionLaws.{free_same}

-- the client has the one transaction
pub record HasOne (s : State) : Type 0 where
  pub transaction : ActiveTransaction
  pub active : s.active ≡ (1, transaction) ∷ []

one_at : (s : State) (t : ActiveTransaction) → s.active ≡ (1, t) ∷ [] → transaction_of s 1 ≡ Some t
one_at s t e = ap (λ (l : List (ℕ × ActiveTransaction)). lookup (is_at (nat_cmp 1)) l) e

pub one_active : (s : State) → HasOne s → IsSome (transaction_of s 1)
one_active s h = subst (λ (o : Option ActiveTransaction). IsSome o) (sym (one_at s h.transaction h.active)) refl

-- what a step leaves alone
pub record LeavesAlone (s n : State) : Type 0 where
  pub committed : n.committed ≡ s.committed
  pub ids : n.ids ≡ s.ids
  pub stored : n.stored ≡ s.stored

-- ---- one write is undone

undone_active : (s : State) (t : ActiveTransaction) → s.active ≡ (1, t) ∷ [] → (after_undo s 1).active ≡ (1, record t { aborting = true }) ∷ []
undone_active s t e = ap (λ (l : List (ℕ × ActiveTransaction)). with_aborting 1 l) e

undoable_one : (s : State) (t : ActiveTransaction) → s.active ≡ (1, t) ∷ [] → undoable s 1 ≡ count_by can_be_undone t.writes
undoable_one s t e = ap (λ (o : Option ActiveTransaction). option_map_or (λ (x : ActiveTransaction). count_by can_be_undone x.writes) o 0) (one_at s t e)

pub record Undone (m n : Moment) : Type 0 where
  pub one : HasOne n.state
  pub alone : LeavesAlone m.state n.state
  pub fewer : left_to_undo n 1 < left_to_undo m 1

pub undone_once : (m n : Moment) → HasOne m.state → n ≡ next m (Undo 1) → 0 < left_to_undo m 1 → Undone m n
undone_once m n h e l =
    let t = h.transaction in
    let s = m.state in
    let now : (next m (Undo 1)).state.active ≡ (1, record t { aborting = true }) ∷ [] = undone_active s t h.active in
    let same : undoable (next m (Undo 1)).state 1 ≡ undoable s 1 = undoable_one (next m (Undo 1)).state (record t { aborting = true }) now ∙ sym (undoable_one s t h.active) in
    let more : (next m (Undo 1)).undone 1 ≡ m.undone 1 + 1 = refl in
    let less : left_to_undo (next m (Undo 1)) 1 < left_to_undo m 1 = (let a : 0 < undoable s 1 - m.undone 1 = l in let r : undoable (next m (Undo 1)).state 1 - (next m (Undo 1)).undone 1 < undoable s 1 - m.undone 1 = omega (arith, same, more, a) in r) in
    subst (λ (x : Moment). Undone m x) (sym e) (record {
      one = record { transaction = record t { aborting = true }; active = now };
      alone = record { committed = refl; ids = refl; stored = refl };
      fewer = less;
    })

-- ---- none is left

pub record Ended (m n : Moment) : Type 0 where
  pub none : n.state.active ≡ []
  pub alone : LeavesAlone m.state n.state

pub ended_then : (m n : Moment) → HasOne m.state → n ≡ next m (Call 1 Abort Done) → Ended m n
ended_then m n h e =
    let s = m.state in
    let t = h.transaction in
    let is : (next m (Call 1 Abort Done)).state ≡ without_transaction s 1 = ap (λ (x : Reply × State). x.1) (step-abort s 1 t (one_at s t h.active)) in
    subst (λ (x : Moment). Ended m x) (sym e) (record {
      none = ap (λ (x : State). x.active) is ∙ ap (λ (l : List (ℕ × ActiveTransaction)). (without_transaction (record s { active = l }) 1).active) h.active;
      alone = record { committed = ap (λ (x : State). x.committed) is; ids = ap (λ (x : State). x.ids) is; stored = ap (λ (x : State). x.stored) is };
    })

-- ---- in a store

-- how an abort stands, which began in the first store, in the second one
pub record StandsBack {D : Type 0} (u v : LoggedView D) : Type 0 where
  pub stays : Stays u v
  pub marks : KeepsMarks u v
  pub one : HasOne (state_in v)
  pub free : free_ids (state_in v) ≡ free_ids (state_in u)

pub stands_first : {D : Type 0} (u : LoggedView D) → u.failed ≡ None → IsAlone (state_in u) 1 → StandsBack u u
stands_first u f a = record {
  stays = record { committed = refl; ids = refl; disk = refl; running = f; limits = refl };
  marks = record { history = refl; log = refl };
  one = record { transaction = a.transaction; active = a.active };
  free = refl;
}

stays_on : {D : Type 0} (u v w : LoggedView D) (r : AbortStep) → Stays u v → LeavesAlone (state_in v) (state_in w) → DoesAbortStep object_slots v.journal w.journal 1 r → KeepsDisk v w → GoesOn v w → Stays u w
stays_on u v w r s a d k g = record { committed = a.committed ∙ s.committed; ids = a.ids ∙ s.ids; disk = k.disk ∙ s.disk; running = g.running; limits = d.opening.1 ∙ s.limits }

marks_on : {D : Type 0} (u v w : LoggedView D) (r : AbortStep) → KeepsMarks u v → DoesAbortStep object_slots v.journal w.journal 1 r → GoesOn v w → KeepsMarks u w
marks_on u v w r m d g = record { history = ap (λ (x : Marks). x.trace) d.opening.2 ∙ m.history; log = g.log_full ∙ m.log }

pub record StepBack {D : Type 0} (u v w : LoggedView D) : Type 0 where
  pub stands : StandsBack u w
  pub fewer : left_to_undo (end_of w.journal.history) 1 < left_to_undo (end_of v.journal.history) 1

-- one write is undone
pub step_back : {D : Type 0} (u v w : LoggedView D) (r : AbortStep) → StandsBack u v → DoesAbortStep object_slots v.journal w.journal 1 r → r ≡ StepUndone → KeepsDisk v w → GoesOn v w → StepBack u v w
step_back u v w r s d is k g =
    let e = d.undone is in
    let n = undone_once (end_of v.journal.history) (end_of w.journal.history) s.one (ap end_of e.1 ∙ end_of-with_entry v.journal.history (Undo 1)) e.0 in
    record {
      stands = record {
        stays = stays_on u v w r s.stays n.alone d k g;
        marks = marks_on u v w r s.marks d g;
        one = n.one;
        free = free_same (state_in v) (state_in w) n.alone.ids n.alone.stored ∙ s.free;
      };
      fewer = n.fewer;
    }

pub record Aborted {D : Type 0} (u w : LoggedView D) : Type 0 where
  pub stays : Stays u w
  pub marks : KeepsMarks u w
  pub none : (state_in w).active ≡ []
  pub free : free_ids (state_in w) ≡ free_ids (state_in u)

-- the transaction ends
pub aborted : {D : Type 0} (u v w : LoggedView D) (r : AbortStep) → StandsBack u v → DoesAbortStep object_slots v.journal w.journal 1 r → r ≡ StepEnded → KeepsDisk v w → GoesOn v w → Aborted u w
aborted u v w r s d is k g =
    let e = d.ended is in
    let n = ended_then (end_of v.journal.history) (end_of w.journal.history) s.one (ap end_of e.1 ∙ end_of-with_entry v.journal.history (Call 1 Abort Done)) in
    record {
      stays = stays_on u v w r s.stays n.alone d k g;
      marks = marks_on u v w r s.marks d g;
      none = n.none;
      free = free_same (state_in v) (state_in w) n.alone.ids n.alone.stored ∙ s.free;
    }
