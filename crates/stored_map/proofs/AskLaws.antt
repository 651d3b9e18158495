-- What the store answers to a begin and to a commit of the client alone.
use Rattle.std.proofs.Common.{◌≡◌, ◌≢◌, ◌⊎◌, ⊎_elim, inl, inr, ℕ, ◌≤◌, true, Option, Some, None, refl, sym, ap, ◌∙◌, subst, arith}
use Rattle.std.specs.Prelude.{IsSome}
use Rattle.plain_model.specs.declared.calls.Call.{Call as TransactionCall}
use Rattle.plain_model.specs.declared.calls.Call.TheVariants as call
use Rattle.plain_model.specs.declared.calls.Reply.{Reply}
use Rattle.plain_model.specs.declared.calls.Reply.TheVariants as reply
use Rattle.plain_model.specs.Machine.{State, step, refusal_of}
use Rattle.plain_laws.specs.Sound.{IsSoundState}
use Rattle.core_store.specs.Steppings.{IsEntered}
use Rattle.core_store.specs.JournalView.{JournalView}
use Rattle.logged_journal.specs.View.{LoggedView}
use Rattle.logged_journal.specs.Calls.{IsOfJournal, IsGranted, DoesCall, GoesOn, KeepsDisk, FailsCommit}
use Rattle.map_calls.specs.declared.failure.Failure.{Failure}
use Rattle.map_calls.specs.declared.failure.Failure.TheVariants as failure
use Rattle.object_map.specs.Clients.{object_slots, free_ids, IsClient}
use Rattle.stored_map.specs.Stores.{state_in, IsUnmarked, IsQuiet, HasBegun}
use Rattle.stored_map.specs.Steps.{Stays, Refuses, Commits, LosesCommit, failure_of}
use Rattle.stored_map.proofs.StepLaws.{entered_state, entered_marks, unmarked_then, Refused, memory_refused, history_refused, log_refused}
use Rattle.stored_map.proofs.TransactionLaws.{Begun, begun, begun_only, begun_rooted, begun_same, step_begins, Committed, committed, step_commits, free_same}

done_entered : IsEntered reply.Done
done_entered = ((λ e. absurd (cc (e))), λ e. absurd (cc (e)))

-- ---- the begin

begun_state : {D : Type 0} (u v : LoggedView D) → IsQuiet u → DoesCall object_slots u.journal v.journal 1 call.Begin reply.Done → Begun (state_in u) (state_in v)
begun_state u v i d = begun (state_in u) (state_in v) i.none (entered_state u.journal v.journal 1 call.Begin reply.Done d done_entered)

pub begin_begun : {D : Type 0} (u v : LoggedView D) → IsQuiet u → DoesCall object_slots u.journal v.journal 1 call.Begin reply.Done → GoesOn u v → IsSoundState (state_in v) → HasBegun v
begin_begun u v i d g s =
    let b = begun_state u v i d in
    let only = begun_only (state_in u) (state_in v) b in
    record {
      client = record { some = omega arith; few = omega arith; running = g.running; alone = record { transaction = only.transaction; active = only.active; running = only.running; sound = s } };
      rooted = begun_rooted (state_in u) (state_in v) b;
      same = begun_same (state_in u) (state_in v) b;
      unmarked = unmarked_then u v i.unmarked (entered_marks u v 1 call.Begin reply.Done d done_entered g);
      limits = d.opening.1 ∙ i.limits;
    }

pub begin_stays : {D : Type 0} (u v : LoggedView D) → IsQuiet u → DoesCall object_slots u.journal v.journal 1 call.Begin reply.Done → GoesOn u v → KeepsDisk u v → Stays u v
begin_stays u v i d g k = let b = begun_state u v i d in record { committed = b.committed; ids = b.ids; disk = k.disk; running = g.running; limits = d.opening.1 }

pub begin_free : {D : Type 0} (u v : LoggedView D) → IsQuiet u → DoesCall object_slots u.journal v.journal 1 call.Begin reply.Done → free_ids (state_in v) ≡ free_ids (state_in u)
begin_free u v i d = let b = begun_state u v i d in free_same (state_in u) (state_in v) b.ids b.stored

-- ---- a refusal

-- what was refused for want of memory or of room, as the marks tell
refuses : {D : Type 0} (f : Failure) (u v : LoggedView D) → Refused f u v → (f ≡ failure.Disk → ⊥) → v.disk ≡ u.disk → Refuses f u v
refuses f u v r n d = record {
  stays = record { committed = r.same.committed; ids = r.same.ids; disk = d; running = r.running; limits = r.limits };
  no_disk = n;
  marked = r.marked;
}

-- what a store answers to such a call beside its replies to a transaction that runs
pub record Answers {D : Type 0} (u v : LoggedView D) (c : TransactionCall) (r : Reply) : Type 0 where
  pub never_again : (word seat : ℕ) → r ≢ reply.Again word seat
  pub never_stopped : (faults : ℕ) → r ≢ reply.Stopped faults
  pub does : IsOfJournal r → DoesCall object_slots u.journal v.journal 1 c r
  pub goes_on : IsOfJournal r → GoesOn u v
  pub log_marked : r ≡ reply.LogFull → v ≡ record u { log_full = true }
  pub machine : (step (state_in u) 1 c).0 ≡ reply.Done
  pub running : u.failed ≡ None
  pub unmarked : IsUnmarked u
  pub disk : (r ≡ reply.Memory) ⊎ (r ≡ reply.TraceFull) → v.disk ≡ u.disk

-- a reply of the journal that was entered is the machine's
not_done : {D : Type 0} (u v : LoggedView D) (c : TransactionCall) (r : Reply) → Answers u v c r → IsOfJournal r → IsEntered r → r ≢ reply.Done → ⊥
not_done u v c r a j e n = n ((a.does j).machine e ∙ a.machine)

pub refuses_call : {D : Type 0} (u v : LoggedView D) (c : TransactionCall) (r : Reply) → Answers u v c r → r ≢ reply.Done → r ≢ reply.DiskFault → Refuses (failure_of r) u v
refuses_call u v c reply.Memory a n f = refuses failure.Memory u v (memory_refused u v 1 c (a.does tt) (a.goes_on tt) a.unmarked) (λ e. absurd (cc (e))) (a.disk (inl refl))
refuses_call u v c reply.TraceFull a n f = refuses failure.HistoryFull u v (history_refused u v 1 c (a.does tt) (a.goes_on tt) a.unmarked) (λ e. absurd (cc (e))) (a.disk (inr refl))
refuses_call u v c reply.LogFull a n f = refuses failure.LogFull u v (log_refused u v a.running (a.log_marked refl) a.unmarked) (λ e. absurd (cc (e))) (ap (λ (x : LoggedView _). x.disk) (a.log_marked refl))
refuses_call u v c reply.Done a n f = absurd (n refl)
refuses_call u v c reply.DiskFault a n f = absurd (f refl)
refuses_call u v c (reply.Again word seat) a n f = absurd (a.never_again word seat refl)
refuses_call u v c (reply.Stopped faults) a n f = absurd (a.never_stopped faults refl)
refuses_call u v c (reply.Id id) a n f = absurd (not_done u v c (reply.Id id) a tt ((λ e. absurd (cc (e))), λ e. absurd (cc (e))) n)
refuses_call u v c (reply.Pay payload) a n f = absurd (not_done u v c (reply.Pay payload) a tt ((λ e. absurd (cc (e))), λ e. absurd (cc (e))) n)
refuses_call u v c reply.NoTxn a n f = absurd (not_done u v c reply.NoTxn a tt ((λ e. absurd (cc (e))), λ e. absurd (cc (e))) n)
refuses_call u v c reply.HasTxn a n f = absurd (not_done u v c reply.HasTxn a tt ((λ e. absurd (cc (e))), λ e. absurd (cc (e))) n)
refuses_call u v c reply.Aborting a n f = absurd (not_done u v c reply.Aborting a tt ((λ e. absurd (cc (e))), λ e. absurd (cc (e))) n)
refuses_call u v c (reply.EmptyRegister reg) a n f = absurd (not_done u v c (reply.EmptyRegister reg) a tt ((λ e. absurd (cc (e))), λ e. absurd (cc (e))) n)
refuses_call u v c reply.NotShared a n f = absurd (not_done u v c reply.NotShared a tt ((λ e. absurd (cc (e))), λ e. absurd (cc (e))) n)
refuses_call u v c (reply.Busy pass) a n f = absurd (not_done u v c (reply.Busy pass) a tt ((λ e. absurd (cc (e))), λ e. absurd (cc (e))) n)
refuses_call u v c reply.Full a n f = absurd (not_done u v c reply.Full a tt ((λ e. absurd (cc (e))), λ e. absurd (cc (e))) n)

pub none_failed : {X : Type 0} (o : Option X) → o ≡ None → IsSome o → ⊥
none_failed None e h = absurd (cc)
none_failed (Some x) e h = absurd (cc)

pub never_stopped : {X : Type 0} (o : Option X) (r : Reply) → o ≡ None → ((faults : ℕ) → r ≡ reply.Stopped faults → IsSome o) → (faults : ℕ) → r ≢ reply.Stopped faults
never_stopped o r n h faults e = none_failed o n (h faults e)

pub begin_machine : {D : Type 0} (u : LoggedView D) → IsQuiet u → (step (state_in u) 1 call.Begin).0 ≡ reply.Done
begin_machine u i = ap (λ (x : Reply × State). x.0) (step_begins (state_in u) i.none)

pub commit_machine : {D : Type 0} (u : LoggedView D) → IsClient u 1 → (step (state_in u) 1 call.Commit).0 ≡ reply.Done
commit_machine u i = ap (λ (x : Reply × State). x.0) (step_commits (state_in u) i.alone.transaction i.alone.active i.alone.running)

-- ---- the commit

pub commit_done : {D : Type 0} (faults : D → ℕ) (u v : LoggedView D) → IsClient u 1 → DoesCall object_slots u.journal v.journal 1 call.Commit reply.Done → GoesOn u v → faults u.disk ≤ faults v.disk → Commits faults u v
commit_done faults u v i d g l =
    let k : Committed (state_in u) (state_in v) = committed (state_in u) (state_in v) i.alone.transaction i.alone.active i.alone.running (entered_state u.journal v.journal 1 call.Commit reply.Done d done_entered) in
    record {
      running = g.running;
      none = k.active;
      committed = k.committed;
      ids = k.ids;
      free = free_same (state_in u) (state_in v) k.ids k.stored;
      limits = d.opening.1;
      marks = entered_marks u v 1 call.Commit reply.Done d done_entered g;
      later = l;
    }

-- where it was refused the disk wasn't asked
pub commit_asks : {D : Type 0} (u v : LoggedView D) (r : Reply) → (IsOfJournal r → DoesCall object_slots u.journal v.journal 1 call.Commit r) → (refusal_of (state_in u) 1 call.Commit ≡ None → r ≢ reply.Memory)
    → ((call.Commit ≡ call.Commit → IsGranted u.journal 1 call.Commit → ⊥) → KeepsDisk u v) → (r ≡ reply.Memory) ⊎ (r ≡ reply.TraceFull) → v.disk ≡ u.disk
commit_asks u v r d m k w = (k (λ e g. ⊎_elim
    (λ (a : r ≡ reply.Memory). m g.granted a)
    (λ (a : r ≡ reply.TraceFull).
    let past = ((d (subst IsOfJournal (sym a) tt)).full).0 a in
    absurd (cc (past, g.room)))
    w)).disk

pub commit_lost : {D : Type 0} (faults : D → ℕ) (u v : LoggedView D) (r : Reply) → Answers u v call.Commit r → r ≢ reply.Done → (r ≡ reply.DiskFault → FailsCommit faults u v 1 call.Commit) → LosesCommit faults (failure_of r) u v
commit_lost faults u v reply.DiskFault a n f = inr (refl, f refl)
commit_lost faults u v reply.Memory a n f = inl (refuses_call u v call.Commit reply.Memory a n (λ e. absurd (cc (e))))
commit_lost faults u v reply.TraceFull a n f = inl (refuses_call u v call.Commit reply.TraceFull a n (λ e. absurd (cc (e))))
commit_lost faults u v reply.LogFull a n f = inl (refuses_call u v call.Commit reply.LogFull a n (λ e. absurd (cc (e))))
commit_lost faults u v reply.Done a n f = absurd (n refl)
commit_lost faults u v (reply.Again word seat) a n f = absurd (a.never_again word seat refl)
commit_lost faults u v (reply.Stopped count) a n f = absurd (a.never_stopped count refl)
commit_lost faults u v (reply.Id id) a n f = inl (refuses_call u v call.Commit (reply.Id id) a n (λ e. absurd (cc (e))))
commit_lost faults u v (reply.Pay payload) a n f = inl (refuses_call u v call.Commit (reply.Pay payload) a n (λ e. absurd (cc (e))))
commit_lost faults u v reply.NoTxn a n f = inl (refuses_call u v call.Commit reply.NoTxn a n (λ e. absurd (cc (e))))
commit_lost faults u v reply.HasTxn a n f = inl (refuses_call u v call.Commit reply.HasTxn a n (λ e. absurd (cc (e))))
commit_lost faults u v reply.Aborting a n f = inl (refuses_call u v call.Commit reply.Aborting a n (λ e. absurd (cc (e))))
commit_lost faults u v (reply.EmptyRegister reg) a n f = inl (refuses_call u v call.Commit (reply.EmptyRegister reg) a n (λ e. absurd (cc (e))))
commit_lost faults u v reply.NotShared a n f = inl (refuses_call u v call.Commit reply.NotShared a n (λ e. absurd (cc (e))))
commit_lost faults u v (reply.Busy pass) a n f = inl (refuses_call u v call.Commit (reply.Busy pass) a n (λ e. absurd (cc (e))))
commit_lost faults u v reply.Full a n f = inl (refuses_call u v call.Commit reply.Full a n (λ e. absurd (cc (e))))

-- ---- at the reply that it was done

pub does_done : (j k : JournalView) (c : TransactionCall) (r : Reply) → r ≡ reply.Done → (IsOfJournal r → DoesCall object_slots j k 1 c r) → DoesCall object_slots j k 1 c reply.Done
does_done j k c r e d = (subst (λ (x : Reply). IsOfJournal x → DoesCall object_slots j k 1 c x) e d) tt

pub goes_done : {D : Type 0} (u v : LoggedView D) (r : Reply) → r ≡ reply.Done → (IsOfJournal r → GoesOn u v) → GoesOn u v
goes_done u v r e d = (subst (λ (x : Reply). IsOfJournal x → GoesOn u v) e d) tt
