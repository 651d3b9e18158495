-- A store that makes checkpoints and collects by itself.
use Rattle.std.proofs.Common.{◌≡◌, ◌≢◌, ℕ, ◌+◌, ◌*◌, ◌<◌, ◌≤◌, List, Option, Some, None, Result, Ok, Err, refl, sym, ap, ◌∙◌, subst, arith, ⊎_elim}
use Rattle.std.specs.Prelude.{max, sum_by, IfOk, IfErr, OnOk}
use Rattle.std.proofs.lemmas.Bool.{cases_lt}
use Rattle.plain_model.specs.declared.object.Object.{Object}
use Rattle.plain_model.specs.Graphs.{object_at}
use Rattle.plain_model.specs.ActiveTransaction.{ActiveTransaction}
use Rattle.plain_model.specs.declared.calls.Call.{Call as TransactionCall}
use Rattle.plain_model.specs.declared.calls.Call.TheVariants as call
use Rattle.plain_model.specs.History.{end_of, left_to_undo, SameReachable}
use Rattle.disk_model.specs.declared.area.Area.{Area}
use Rattle.gate_log.specs.State.{used}
use Rattle.core_store.specs.Owed.{bytes_owed, bytes_needed}
use Rattle.logged_journal.specs.declared.failed.FailedCall.{FailedCall}
use Rattle.logged_journal.specs.View.{LoggedView}
use Rattle.logged_journal.specs.Calls.{IsPastLog}
use Rattle.object_store.specs.declared.tending.Tending.{Tending}
use Rattle.object_store.specs.declared.reference.Held.{Held}
use Rattle.object_store.specs.declared.error.StoreError.{StoreError}
use Rattle.object_store.specs.declared.error.StoreError.TheVariants as error
use Rattle.object_store.specs.Handles.{StoreView, committed_of, IsClosed}
use Rattle.object_store.specs.Seen.{client, state_of, IsQuiet}
use Rattle.object_store.specs.Calls.{IsShortOf}
use Rattle.object_store.specs.Steps.{register_of, IsGetError, IsSetError, IsMakeError, IsObjectError, Begins, FailsToBegin, Commits, FailsToCommit}
use Rattle.object_store.specs.Upkeep.{waiting_of, CollectsUpTo, CollectsShort, FailsToCollect, Collects, soft_limit, Readies}
use Rattle.object_store.specs.Tended.{EndsLeft, Starts, HasNoRoom, IsTooLong, FailsToStart, refused, CollectsAfter, made, short, CommitsAndCollects}

-- ---- beginning

-- what is committed is as before
readies_committed : {D : Type 0} (may_leave : D → Area → List ℕ → Type 0) (u m : StoreView D) → Readies may_leave u m → committed_of m ≡ committed_of u
readies_committed {D} may_leave u m r = ⊎_elim
    (λ (long : soft_limit u < used u.below.log). (r.turned long).committed)
    (λ (short : used u.below.log ≤ soft_limit u). subst (λ (x : StoreView D). committed_of x ≡ committed_of u) (sym (r.was short)) refl)
    (cases_lt (soft_limit u) (used u.below.log))

-- nothing is open at a store that was made ready, where nothing was
pub readies_closed : {D : Type 0} (may_leave : D → Area → List ℕ → Type 0) (u m : StoreView D) → Readies may_leave u m → (u.below.failed ≡ None → IsClosed u) → m.below.failed ≡ None → IsClosed m
readies_closed {D} may_leave u m r closed = ⊎_elim
    (λ (long : soft_limit u < used u.below.log) _. (r.turned long).closed)
    (λ (short : used u.below.log ≤ soft_limit u). subst (λ (x : StoreView D). x.below.failed ≡ None → IsClosed x) (sym (r.was short)) closed)
    (cases_lt (soft_limit u) (used u.below.log))

-- so it is where what was left open was ended
pub ended_closed : {D : Type 0} (u e : StoreView D) → EndsLeft u e → e.below.failed ≡ None → IsClosed e
ended_closed u e l f = l.ends.quiet (sym l.ends.failed ∙ f)

readies_soft : {D : Type 0} (may_leave : D → Area → List ℕ → Type 0) (u m : StoreView D) → Readies may_leave u m → m.tending ≡ u.tending
readies_soft {D} may_leave u m r = ⊎_elim
    (λ (long : soft_limit u < used u.below.log). (r.turned long).tending)
    (λ (short : used u.below.log ≤ soft_limit u). subst (λ (x : StoreView D). x.tending ≡ u.tending) (sym (r.was short)) refl)
    (cases_lt (soft_limit u) (used u.below.log))

-- no more is in use than its own soft limit
pub readies_room : {D : Type 0} (may_leave : D → Area → List ℕ → Type 0) (u m : StoreView D) → Readies may_leave u m → used m.below.log ≤ max 15 (soft_limit m)
readies_room {D} may_leave u m r = subst (λ (t : Tending). used m.below.log ≤ max 15 t.log) (sym (readies_soft may_leave u m r)) r.room

-- where nothing is open nothing is owed
no_debt : {D : Type 0} (v : LoggedView D) → IsQuiet (state_of v) → bytes_owed (end_of v.journal.history) ≡ 0
no_debt v q = ap (λ (active : List (ℕ × ActiveTransaction)). sum_by (λ e. 25 * left_to_undo (end_of v.journal.history) e.0 + 7) active) q

has_no_room : {D : Type 0} (why : StoreError) (m w : StoreView D) → used m.below.log ≤ max 15 (soft_limit m) → (m.below.failed ≡ None → IsClosed m) → FailsToBegin why m w → why ≡ error.LogFull → HasNoRoom m
has_no_room {D} why m w room closed f is =
    let other : why ≢ error.Stopped = λ x. absurd (cc) in
    let running : m.below.failed ≡ None = runs m.below.failed (λ n. other (f.only_stopped n)) in
    let short : IsShortOf call.Begin error.LogFull m.below = subst (λ (e : StoreError). IsShortOf call.Begin e m.below) is (f.cause other (closed running)) in
    let past : m.below.journal.limits.log < used m.below.log + bytes_owed (end_of m.below.journal.history) + 9 = short.past in
    let none : bytes_owed (end_of m.below.journal.history) ≡ 0 = no_debt m.below (closed running) in
    omega (arith, past, none, room)
  where
    runs : (o : Option FailedCall) → (o ≢ None → ⊥) → o ≡ None
    runs None h = refl
    runs (Some x) h = absurd (h (λ e. absurd (cc)))

pub record StartTold {D : Type 0} (faults : D → ℕ) (may_leave : D → Area → List ℕ → Type 0) (r : Result (Unit {0}) StoreError) (old new : StoreView D) : Type 0 where
  pub begun : OnOk r (Starts may_leave old new)
  pub refused : IfErr r (λ why. FailsToStart faults may_leave why old new)

pub start_told : {D : Type 0} (faults : D → ℕ) (may_leave : D → Area → List ℕ → Type 0) (u e m w : StoreView D) (r : Result (Unit {0}) StoreError) → EndsLeft u e → Readies may_leave e m → OnOk r (Begins m w) → IfErr r (λ why. FailsToBegin why m w) → StartTold faults may_leave r u w
start_told faults may_leave u e m w (Ok x) left ready begins fails = record {
  begun = record {
    graph = begins.graph ∙ readies_committed may_leave e m ready ∙ left.ends.committed;
    committed = begins.committed ∙ readies_committed may_leave e m ready ∙ left.ends.committed;
    ended = e;
    ends = left;
    ready = m;
    readies = ready;
    begins = begins;
  };
  refused = tt;
}
start_told faults may_leave u e m w (Err why) left ready begins fails = record {
  begun = tt;
  refused = refused e m left ready fails (has_no_room why m w (readies_room may_leave e m ready) (readies_closed may_leave e m ready (ended_closed u e left)) fails);
}

-- ---- a transaction that is too long

too_long : {D : Type 0} (v : StoreView D) (c : TransactionCall) → IsPastLog v.below client c → IsTooLong v c
too_long v c p =
    let past : v.below.journal.limits.log < used v.below.log + bytes_owed (end_of v.below.journal.history) + bytes_needed c = p.past in
    let room : v.tending.begun ≤ max 15 v.tending.log = v.tending.room in
    omega (arith, past, room)

pub weaker_err : {X : Type 0} (P Q : StoreError → Type 0) (r : Result X StoreError) → ((why : StoreError) → P why → Q why) → IfErr r P → IfErr r Q
weaker_err P Q (Ok x) h p = tt
weaker_err P Q (Err why) h p = h why p

pub make_alone : {D : Type 0} (v : StoreView D) (why : StoreError) → IsMakeError v why → why ≡ error.LogFull → IsTooLong v (call.Make 0)
make_alone {D} v why e is =
    let f : IsMakeError v error.LogFull = subst (λ (x : StoreError). IsMakeError v x) is e in
    too_long v (call.Make f.1.0) f.1.1

pub get_alone : {D : Type 0} (h : Held) (slot : ℕ) (v : StoreView D) (why : StoreError) → IsGetError h slot v why → why ≡ error.LogFull → IsTooLong v (call.Read h.register slot 0)
get_alone {D} h slot v why e is =
    let f : IsGetError h slot v error.LogFull = subst (λ (x : StoreError). IsGetError h slot v x) is e in
    too_long v (call.Read h.register slot f.3.0) f.3.1

pub set_alone : {D : Type 0} (h : Held) (slot : ℕ) (to : Option Held) (v : StoreView D) (why : StoreError) → IsSetError h slot to v why → why ≡ error.LogFull → IsTooLong v (call.Store h.register slot (register_of to))
set_alone {D} h slot to v why e is =
    let f : IsSetError h slot to v error.LogFull = subst (λ (x : StoreError). IsSetError h slot to v x) is e in
    too_long v (call.Store h.register slot (register_of to)) f.3

pub object_alone : {D : Type 0} (h : Held) (c : TransactionCall) (v : StoreView D) (why : StoreError) → IsObjectError h c v why → why ≡ error.LogFull → IsTooLong v c
object_alone {D} h c v why e is =
    let f : IsObjectError h c v error.LogFull = subst (λ (x : StoreError). IsObjectError h c v x) is e in
    too_long v c f.1

pub commit_alone : {D : Type 0} (faults : D → ℕ) (v w : StoreView D) (why : StoreError) → FailsToCommit faults v w why → why ≡ error.LogFull → IsTooLong v call.Commit
commit_alone {D} faults v w why e is =
    let f : FailsToCommit faults v w error.LogFull = subst (λ (x : StoreError). FailsToCommit faults v w x) is e in
    too_long v call.Commit f.0

-- ---- collecting after a commit

-- a store that runs fails only where something is short
short_of : {D : Type 0} (steps : ℕ) (why : StoreError) (m w : StoreView D) → m.below.failed ≡ None → FailsToCollect steps why m w → CollectsShort steps why m w
short_of steps error.NotHeld m w running c = c
short_of steps error.NoSuchSlot m w running c = c
short_of steps error.TooManyReferences m w running c = c
short_of steps error.Full m w running c = c
short_of steps error.Memory m w running c = c
short_of steps error.HistoryFull m w running c = c
short_of steps error.LogFull m w running c = c
short_of steps error.Disk m w running c = c
short_of steps error.Ended m w running c = c
short_of steps error.Stopped m w running c = absurd (c.0 running)

collects_after : {D : Type 0} (steps : ℕ) (m w : StoreView D) (r : Result ℕ StoreError) → m.below.failed ≡ None → IfOk r (λ left. CollectsUpTo steps left m w) → IfOk r (λ left. left ≡ waiting_of w) → IfErr r (λ why. FailsToCollect steps why m w) → CollectsAfter steps m w
collects_after {D} steps m w (Ok left) running up waits fails = made (subst (λ (n : ℕ). CollectsUpTo steps n m w) waits up)
collects_after {D} steps m w (Err why) running up waits fails = short why (short_of steps why m w running fails)

collects_so : {D : Type 0} (steps : ℕ) (m w : StoreView D) → CollectsAfter steps m w → Collects m w
collects_so steps m w (made up) = up.collects
collects_so steps m w (short why s) = s.collects

pub collected : {D : Type 0} (u m w : StoreView D) (r : Result ℕ StoreError) → Commits u m → IfOk r (λ left. CollectsUpTo u.tending.steps left m w) → IfOk r (λ left. left ≡ waiting_of w) → IfErr r (λ why. FailsToCollect u.tending.steps why m w) → CommitsAndCollects u w
collected u m w r c up waits fails =
    let after = collects_after u.tending.steps m w r c.running up waits fails in
    let so = collects_so u.tending.steps m w after in
    record {
      closed = so.closed;
      reach = subst (λ (g : List Object). SameReachable (committed_of w) g) c.committed so.reach;
      removes = λ id o there. subst (λ (g : List Object). object_at g id ≡ Some o) c.committed (so.removes id o there);
      committed = m;
      commits = c;
      collects = after;
    }
