-- What one call at the store, and several, leave of it.
use Rattle.std.proofs.Common.{◌≡◌, ℕ, Bool, true, false, List, [], ◌∷◌, Some, None, refl, sym, ap, ◌∙◌, subst}
use Rattle.std.specs.Prelude.{unwrap_or, ◌↔◌}
use Rattle.std.specs.Option.{option_map_or}
use Rattle.plain_model.specs.declared.calls.Call.{Call as TransactionCall}
use Rattle.plain_model.specs.declared.calls.Call.TheVariants as call
use Rattle.plain_model.specs.declared.calls.Reply.{Reply}
use Rattle.plain_model.specs.declared.calls.Reply.TheVariants as reply
use Rattle.plain_model.specs.declared.calls.Entry.TheVariants.{Call}
use Rattle.plain_model.specs.ActiveTransaction.{ActiveTransaction}
use Rattle.plain_model.specs.Machine.{State, step, success, refusal_of, transaction_of, new_transaction}
use Rattle.plain_model.specs.History.{end_of}
use Rattle.plain_model.proofs.HistoryLemmas.{end_of-with_entry}
use Rattle.plain_model.proofs.StepLaws.{step-size}
use Rattle.core_store.specs.Steppings.{IsEntered}
use Rattle.core_store.specs.JournalView.{JournalView}
use Rattle.core_store.specs.declared.marks.Marks.{Marks}
use Rattle.logged_journal.specs.View.{LoggedView}
use Rattle.logged_journal.specs.Calls.{IsOfJournal, DoesCall, GoesOn}
use Rattle.map_calls.specs.declared.failure.Failure.{Failure}
use Rattle.map_calls.specs.declared.failure.Failure.TheVariants as failure
use Rattle.object_map.specs.declared.refusal.MapRefusal.{MapRefusal}
use Rattle.object_map.specs.Clients.{object_slots, ClientView, state_of, IsInside, IsGranted, IsCause, IsAsked, Run, AreGranted, Asks, Fails, no_id, refusal_for}
use Rattle.stored_map.specs.Stores.{state_in, IsUnmarked}
use Rattle.stored_map.specs.Steps.{Stays, KeepsMarks, Refuses, IsMarkedBy, failure_in}

-- ---- the state after a call that was entered

pub entered_state : (j k : JournalView) (pass : ℕ) (c : TransactionCall) (r : Reply) → DoesCall object_slots j k pass c r → IsEntered r → (end_of k.history).state ≡ (step (end_of j.history).state pass c).1
entered_state j k pass c r d e = ap (λ h. (end_of h).state) (d.entry e) ∙ ap (λ m. m.state) (end_of-with_entry j.history (Call pass c r))

inside_success : (s : State) (pass : ℕ) (t : ActiveTransaction) (c : TransactionCall) → IsInside c → (success s pass t c).1.committed ≡ s.committed
inside_success s pass t call.Begin i = absurd i
inside_success s pass t (call.Read r slot into) i = refl
inside_success s pass t (call.GetPay r) i = refl
inside_success s pass t (call.Store r slot f) i = refl
inside_success s pass t (call.SetPay r v) i = refl
inside_success s pass t (call.Release r) i = refl
inside_success s pass t (call.Make into) i = refl
inside_success s pass t call.Commit i = absurd i
inside_success s pass t call.Abort i = absurd i

-- a call inside a transaction leaves the committed graph
inside_committed : (s : State) (pass : ℕ) (c : TransactionCall) → IsInside c → (step s pass c).1.committed ≡ s.committed
unfolding step
inside_committed s pass c i =
    let t = unwrap_or (transaction_of s pass) new_transaction in
    elim (refusal_of s pass c) as (λ o. (option_map_or (λ (r : Reply). (r, s)) o (success s pass t c)).1.committed ≡ s.committed) [ Some r ↦ refl | None ↦ inside_success s pass t c i ]

-- ---- what stays

pub record IsSame (old new : State) : Type 0 where
  pub committed : new.committed ≡ old.committed
  pub ids : new.ids ≡ old.ids

same_state : (old new : State) → new ≡ old → IsSame old new
same_state old new e = record { committed = ap (λ (s : State). s.committed) e; ids = ap (λ (s : State). s.ids) e }

same_after : (old mid new : State) → IsSame old mid → IsSame mid new → IsSame old new
same_after old mid new a b = record { committed = b.committed ∙ a.committed; ids = b.ids ∙ a.ids }

entered_same : (j k : JournalView) (pass : ℕ) (c : TransactionCall) (r : Reply) → IsInside c → DoesCall object_slots j k pass c r → IsEntered r → IsSame (end_of j.history).state (end_of k.history).state
entered_same j k pass c r i d e =
    let s = entered_state j k pass c r d e in
    let b = (end_of j.history).state in
    record {
      committed = ap (λ (x : State). x.committed) s ∙ inside_committed b pass c i;
      ids = ap (λ (x : State). x.ids) s ∙ (step-size b pass c).0;
    }

-- a call that was done leaves it
granted_entered : (r : Reply) → IsGranted r → IsOfJournal r × IsEntered r
granted_entered reply.Done g = (tt, ((λ e. cc), λ e. cc))
granted_entered (reply.Id id) g = (tt, ((λ e. cc), λ e. cc))
granted_entered (reply.Pay payload) g = (tt, ((λ e. cc), λ e. cc))
granted_entered reply.Memory g = absurd g
granted_entered reply.TraceFull g = absurd g
granted_entered reply.LogFull g = absurd g
granted_entered reply.DiskFault g = absurd g
granted_entered (reply.Again word seat) g = absurd g
granted_entered (reply.Stopped faults) g = absurd g
granted_entered reply.NoTxn g = absurd g
granted_entered reply.HasTxn g = absurd g
granted_entered reply.Aborting g = absurd g
granted_entered (reply.EmptyRegister reg) g = absurd g
granted_entered reply.NotShared g = absurd g
granted_entered (reply.Busy pass) g = absurd g
granted_entered reply.Full g = absurd g

granted_same : {D : Type 0} (v w : ClientView D) (c : TransactionCall) (r : Reply) → IsAsked v c r w → IsGranted r → IsSame (state_of v) (state_of w)
granted_same v w c r a g =
    let e = granted_entered r g in
    entered_same v.store.journal w.store.journal v.number c r a.inside (a.does e.0) e.1

-- calls that were done leave it, one after another
pub run_same : {D : Type 0} (es : List (TransactionCall × Reply)) (v w : ClientView D) → Run es v w → AreGranted es → IsSame (state_of v) (state_of w)
run_same [] v w r g = same_state (state_of v) (state_of w) (ap state_of r)
run_same (e ∷ es) v w r g = same_after (state_of v) (state_of r.0) (state_of w) (granted_same v r.0 e.0 e.1 r.1.0 g.0) (run_same es r.0 w r.1.1 g.1)

pub run_disk : {D : Type 0} (es : List (TransactionCall × Reply)) (v w : ClientView D) → Run es v w → w.store.disk ≡ v.store.disk
run_disk [] v w r = ap (λ (x : ClientView _). x.store.disk) r
run_disk (e ∷ es) v w r = run_disk es r.0 w r.1.1 ∙ r.1.0.disk.disk

pub run_number : {D : Type 0} (es : List (TransactionCall × Reply)) (v w : ClientView D) → Run es v w → w.number ≡ v.number
run_number [] v w r = ap (λ (x : ClientView _). x.number) r
run_number (e ∷ es) v w r = run_number es r.0 w r.1.1 ∙ r.1.0.number

run_running : {D : Type 0} (es : List (TransactionCall × Reply)) (v w : ClientView D) → Run es v w → AreGranted es → v.store.failed ≡ None → w.store.failed ≡ None
run_running [] v w r g n = ap (λ (x : ClientView _). x.store.failed) r ∙ n
run_running (e ∷ es) v w r g n = run_running es r.0 w r.1.1 g.1 (r.1.0.goes_on (granted_entered e.1 g.0).0).running

pub run_limits : {D : Type 0} (es : List (TransactionCall × Reply)) (v w : ClientView D) → Run es v w → AreGranted es → w.store.journal.limits ≡ v.store.journal.limits
run_limits [] v w r g = ap (λ (x : ClientView _). x.store.journal.limits) r
run_limits (e ∷ es) v w r g = run_limits es r.0 w r.1.1 g.1 ∙ (r.1.0.does (granted_entered e.1 g.0).0).opening.1

marks_refl : {D : Type 0} (v w : LoggedView D) → w ≡ v → KeepsMarks v w
marks_refl v w e = record { history = ap (λ (x : LoggedView _). x.journal.marks.trace) e; log = ap (λ (x : LoggedView _). x.log_full) e }

pub marks_then : {D : Type 0} (u v w : LoggedView D) → KeepsMarks u v → KeepsMarks v w → KeepsMarks u w
marks_then u v w a b = record { history = b.history ∙ a.history; log = b.log ∙ a.log }

-- a call that was entered leaves the marks
pub entered_marks : {D : Type 0} (v w : LoggedView D) (pass : ℕ) (c : TransactionCall) (r : Reply) → DoesCall object_slots v.journal w.journal pass c r → IsEntered r → GoesOn v w → KeepsMarks v w
entered_marks v w pass c r d e g = record { history = ap (λ (m : Marks). m.trace) (d.unmarked e); log = g.log_full }

granted_marks : {D : Type 0} (v w : ClientView D) (c : TransactionCall) (r : Reply) → IsAsked v c r w → IsGranted r → KeepsMarks v.store w.store
granted_marks v w c r a g =
    let e = granted_entered r g in
    entered_marks v.store w.store v.number c r (a.does e.0) e.1 (a.goes_on e.0)

pub run_marks : {D : Type 0} (es : List (TransactionCall × Reply)) (v w : ClientView D) → Run es v w → AreGranted es → KeepsMarks v.store w.store
run_marks [] v w r g = marks_refl v.store w.store (ap (λ (x : ClientView _). x.store) r)
run_marks (e ∷ es) v w r g = marks_then v.store r.0.store w.store (granted_marks v r.0 e.0 e.1 r.1.0 g.0) (run_marks es r.0 w r.1.1 g.1)

-- what calls that were done leave of the store
pub asks_stays : {D : Type 0} (looks : ℕ) (changes : List TransactionCall) (v w : ClientView D) → v.store.failed ≡ None → Asks looks changes v w → Stays v.store w.store
asks_stays looks changes v w running a =
    let same = run_same a.made v w a.run a.granted in
    record { committed = same.committed; ids = same.ids; disk = run_disk a.made v w a.run; running = run_running a.made v w a.run a.granted running; limits = run_limits a.made v w a.run a.granted }

pub asks_marks : {D : Type 0} (looks : ℕ) (changes : List TransactionCall) (v w : ClientView D) → Asks looks changes v w → KeepsMarks v.store w.store
asks_marks looks changes v w a = run_marks a.made v w a.run a.granted

-- ---- marks

false_true : (b : Bool) → b ≡ false → b ≡ true → ⊥
false_true true e f = absurd (cc (e))
false_true false e f = absurd (cc (f))

-- a store that isn't marked is marked for nothing
pub no_mark : (P : Type 0) (b : Bool) → (P → ⊥) → b ≡ false → P ↔ (b ≡ true)
no_mark P b n e = ((λ p. absurd (n p)), λ f. absurd (false_true b e f))

pub unmarked_then : {D : Type 0} (v w : LoggedView D) → IsUnmarked v → KeepsMarks v w → IsUnmarked w
unmarked_then v w u k = record { history = k.history ∙ u.history; log = k.log ∙ u.log }

-- such a cause marks nothing
pub marked_none : {D : Type 0} (cause : Failure) (w : LoggedView D) → IsUnmarked w → (cause ≡ failure.HistoryFull → ⊥) → (cause ≡ failure.LogFull → ⊥) → IsMarkedBy cause w
marked_none cause w u h l = record { history = no_mark (cause ≡ failure.HistoryFull) w.journal.marks.trace h u.history; log = no_mark (cause ≡ failure.LogFull) w.log_full l u.log }

pub marked_history : {D : Type 0} (w : LoggedView D) → w.journal.marks.trace ≡ true → w.log_full ≡ false → IsMarkedBy failure.HistoryFull w
marked_history w m l = record { history = ((λ e. m), λ e. refl); log = no_mark (failure.HistoryFull ≡ failure.LogFull) w.log_full (λ e. absurd (cc (e))) l }

pub marked_log : {D : Type 0} (w : LoggedView D) → w.journal.marks.trace ≡ false → w.log_full ≡ true → IsMarkedBy failure.LogFull w
marked_log w h m = record { history = no_mark (failure.LogFull ≡ failure.HistoryFull) w.journal.marks.trace (λ e. absurd (cc (e))) h; log = ((λ e. m), λ e. refl) }

-- ---- a call that was refused

pub record Refused {D : Type 0} (cause : Failure) (v w : LoggedView D) : Type 0 where
  pub same : IsSame (state_in v) (state_in w)
  pub running : w.failed ≡ None
  pub limits : w.journal.limits ≡ v.journal.limits
  pub marked : IsMarkedBy cause w

-- for want of memory, or of room in the history or the log
pub memory_refused : {D : Type 0} (v w : LoggedView D) (pass : ℕ) (c : TransactionCall) → DoesCall object_slots v.journal w.journal pass c reply.Memory → GoesOn v w → IsUnmarked v → Refused failure.Memory v w
memory_refused v w pass c d g u =
    let k : KeepsMarks v w = record { history = ap (λ (j : JournalView). j.marks.trace) (d.memory refl); log = g.log_full } in
    record {
      same = same_state (state_in v) (state_in w) (ap (λ (j : JournalView). (end_of j.history).state) (d.memory refl));
      running = g.running;
      limits = d.opening.1;
      marked = marked_none failure.Memory w (unmarked_then v w u k) (λ e. absurd (cc (e))) (λ e. absurd (cc (e)));
    }

pub history_refused : {D : Type 0} (v w : LoggedView D) (pass : ℕ) (c : TransactionCall) → DoesCall object_slots v.journal w.journal pass c reply.TraceFull → GoesOn v w → IsUnmarked v → Refused failure.HistoryFull v w
history_refused v w pass c d g u = record {
  same = same_state (state_in v) (state_in w) (ap (λ (j : JournalView). (end_of j.history).state) (d.marked refl));
  running = g.running;
  limits = d.opening.1;
  marked = marked_history w (ap (λ (j : JournalView). j.marks.trace) (d.marked refl)) (g.log_full ∙ u.log);
}

pub log_refused : {D : Type 0} (v w : LoggedView D) → v.failed ≡ None → w ≡ record v { log_full = true } → IsUnmarked v → Refused failure.LogFull v w
log_refused v w n e u = record {
  same = same_state (state_in v) (state_in w) (ap state_in e);
  running = ap (λ (x : LoggedView _). x.failed) e ∙ n;
  limits = ap (λ (x : LoggedView _). x.journal.limits) e;
  marked = marked_log w (ap (λ (x : LoggedView _). x.journal.marks.trace) e ∙ u.history) (ap (λ (x : LoggedView _). x.log_full) e);
}

-- the map's refusal of a call of the client, but for want of an id
cause_refused : {D : Type 0} (v w : ClientView D) (c : TransactionCall) (r : Reply) → IsAsked v c r w → IsCause c r → v.store.failed ≡ None → IsUnmarked v.store → (refusal_for r ≡ no_id → ⊥) → Refused (failure_in (refusal_for r)) v.store w.store
cause_refused v w c reply.Memory a i o u n = memory_refused v.store w.store v.number c (a.does tt) (a.goes_on tt) u
cause_refused v w c reply.TraceFull a i o u n = history_refused v.store w.store v.number c (a.does tt) (a.goes_on tt) u
cause_refused v w c reply.LogFull a i o u n = log_refused v.store w.store o (a.log_marked refl) u
cause_refused v w c reply.Full a i o u n = absurd (n refl)
cause_refused v w c reply.Done a i o u n = absurd i
cause_refused v w c (reply.Id id) a i o u n = absurd i
cause_refused v w c (reply.Pay payload) a i o u n = absurd i
cause_refused v w c reply.DiskFault a i o u n = absurd i
cause_refused v w c (reply.Again word seat) a i o u n = absurd i
cause_refused v w c (reply.Stopped faults) a i o u n = absurd i
cause_refused v w c reply.NoTxn a i o u n = absurd i
cause_refused v w c reply.HasTxn a i o u n = absurd i
cause_refused v w c reply.Aborting a i o u n = absurd i
cause_refused v w c (reply.EmptyRegister reg) a i o u n = absurd i
cause_refused v w c reply.NotShared a i o u n = absurd i
cause_refused v w c (reply.Busy pass) a i o u n = absurd i

cause_no_disk : (c : TransactionCall) (r : Reply) → IsCause c r → (refusal_for r ≡ no_id → ⊥) → failure_in (refusal_for r) ≡ failure.Disk → ⊥
cause_no_disk c reply.Memory i n e = absurd (cc (e))
cause_no_disk c reply.TraceFull i n e = absurd (cc (e))
cause_no_disk c reply.LogFull i n e = absurd (cc (e))
cause_no_disk c reply.Full i n e = n refl
cause_no_disk c reply.Done i n e = i
cause_no_disk c (reply.Id id) i n e = i
cause_no_disk c (reply.Pay payload) i n e = i
cause_no_disk c reply.DiskFault i n e = i
cause_no_disk c (reply.Again word seat) i n e = i
cause_no_disk c (reply.Stopped faults) i n e = i
cause_no_disk c reply.NoTxn i n e = i
cause_no_disk c reply.HasTxn i n e = i
cause_no_disk c reply.Aborting i n e = i
cause_no_disk c (reply.EmptyRegister reg) i n e = i
cause_no_disk c reply.NotShared i n e = i
cause_no_disk c (reply.Busy pass) i n e = i

-- so after calls that were done
pub fails_refuses : {D : Type 0} (why : MapRefusal) (v w : ClientView D) → v.store.failed ≡ None → IsUnmarked v.store → Fails why v w → (why ≡ no_id → ⊥) → Refuses (failure_in why) v.store w.store
fails_refuses why v w running u f n =
    let not_full : refusal_for f.answer ≡ no_id → ⊥ = λ e. n (f.told ∙ e) in
    let before = run_same f.made v f.before f.run f.granted in
    let still : IsUnmarked f.before.store = unmarked_then v.store f.before.store u (run_marks f.made v f.before f.run f.granted) in
    let last : Refused (failure_in (refusal_for f.answer)) f.before.store w.store = cause_refused f.before w f.call f.answer f.last f.cause (run_running f.made v f.before f.run f.granted running) still not_full in
    let same = same_after (state_of v) (state_of f.before) (state_of w) before last.same in
    let told : failure_in why ≡ failure_in (refusal_for f.answer) = ap failure_in f.told in
    record {
      stays = record { committed = same.committed; ids = same.ids; disk = f.last.disk.disk ∙ run_disk f.made v f.before f.run; running = last.running; limits = last.limits ∙ run_limits f.made v f.before f.run f.granted };
      no_disk = λ e. cause_no_disk f.call f.answer f.cause not_full (sym told ∙ e);
      marked = subst (λ (x : Failure). IsMarkedBy x w.store) (sym told) last.marked;
    }

-- ---- where every id is stored

-- what a call that found no id leaves
record IsFull {D : Type 0} (v w : ClientView D) : Type 0 where
  same : IsSame (state_of v) (state_of w)
  running : w.store.failed ≡ None
  limits : w.store.journal.limits ≡ v.store.journal.limits
  marks : KeepsMarks v.store w.store

full_entered : IsEntered reply.Full
full_entered = ((λ e. absurd (cc (e))), λ e. absurd (cc (e)))

full_cause : {D : Type 0} (v w : ClientView D) (c : TransactionCall) (r : Reply) → IsAsked v c r w → IsCause c r → no_id ≡ refusal_for r → IsFull v w
full_cause v w c reply.Full a i n = record {
  same = entered_same v.store.journal w.store.journal v.number c reply.Full a.inside (a.does tt) full_entered;
  running = (a.goes_on tt).running;
  limits = (a.does tt).opening.1;
  marks = entered_marks v.store w.store v.number c reply.Full (a.does tt) full_entered (a.goes_on tt);
}
full_cause v w c reply.Memory a i n = absurd (cc (n))
full_cause v w c reply.TraceFull a i n = absurd (cc (n))
full_cause v w c reply.LogFull a i n = absurd (cc (n))
full_cause v w c reply.Done a i n = absurd i
full_cause v w c (reply.Id id) a i n = absurd i
full_cause v w c (reply.Pay payload) a i n = absurd i
full_cause v w c reply.DiskFault a i n = absurd i
full_cause v w c (reply.Again word seat) a i n = absurd i
full_cause v w c (reply.Stopped faults) a i n = absurd i
full_cause v w c reply.NoTxn a i n = absurd i
full_cause v w c reply.HasTxn a i n = absurd i
full_cause v w c reply.Aborting a i n = absurd i
full_cause v w c (reply.EmptyRegister reg) a i n = absurd i
full_cause v w c reply.NotShared a i n = absurd i
full_cause v w c (reply.Busy pass) a i n = absurd i

pub full_stays : {D : Type 0} (why : MapRefusal) (v w : ClientView D) → Fails why v w → why ≡ no_id → Stays v.store w.store
full_stays why v w f n =
    let before = run_same f.made v f.before f.run f.granted in
    let last = full_cause f.before w f.call f.answer f.last f.cause (sym n ∙ f.told) in
    let same = same_after (state_of v) (state_of f.before) (state_of w) before last.same in
    record { committed = same.committed; ids = same.ids; disk = f.last.disk.disk ∙ run_disk f.made v f.before f.run; running = last.running; limits = last.limits ∙ run_limits f.made v f.before f.run f.granted }

pub full_marks : {D : Type 0} (why : MapRefusal) (v w : ClientView D) → Fails why v w → why ≡ no_id → KeepsMarks v.store w.store
full_marks why v w f n = marks_then v.store f.before.store w.store (run_marks f.made v f.before f.run f.granted) (full_cause f.before w f.call f.answer f.last f.cause (sym n ∙ f.told)).marks

pub full_number : {D : Type 0} (why : MapRefusal) (v w : ClientView D) → Fails why v w → w.number ≡ v.number
full_number why v w f = f.last.number ∙ run_number f.made v f.before f.run
