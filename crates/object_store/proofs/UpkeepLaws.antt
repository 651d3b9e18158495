-- What the upkeep of a store comes to, over what its parts do below.
use Rattle.std.proofs.Common.{◌≡◌, ◌≢◌, ℕ, true, false, List, Option, Some, None, Result, Ok, Err, refl, sym, ap, ◌∙◌, subst, inl, is_some}
use Rattle.std.specs.Prelude.{IfOk, IfErr, OnOk}
use Rattle.plain_model.specs.declared.object.Object.{Object}
use Rattle.plain_model.specs.Graphs.{object_at}
use Rattle.plain_model.specs.Machine.{State}
use Rattle.plain_model.specs.History.{Moment, SameReachable, end_of}
use Rattle.disk_model.specs.declared.area.Area.{Area}
use Rattle.disk_model.specs.Areas.{Bytes}
use Rattle.disk_model.specs.Time.{LeavesOnlyImages}
use Rattle.restart_laws.specs.Settled.{IsSettled}
use Rattle.core_store.specs.JournalView.{JournalView}
use Rattle.logged_journal.specs.declared.failed.FailedCall.{FailedCall}
use Rattle.logged_journal.specs.View.{LoggedView}
use Rattle.logged_journal.specs.Upkeep.{FailsUpkeep}
use Rattle.object_store.specs.declared.tending.Tending.{Tending}
use Rattle.object_store.specs.declared.error.StoreError.{StoreError}
use Rattle.object_store.specs.declared.error.StoreError.TheVariants as error
use Rattle.object_store.specs.Seen.{state_of, IsQuiet}
use Rattle.object_store.specs.Ends.{Ends}
use Rattle.object_store.specs.Handles.{StoreView, store_at, IsKept}
use Rattle.object_store.specs.Upkeep.{MakesEvents, MakesUpTo, MakesShort, IsExact, waiting_in, TurnsLog, StaysUnturned, TurnsNot, OpensToReach, waiting_of, StoresReached, Collects, CollectsUpTo, CollectsShort, FailsToCollect, Checkpoints, MissesCheckpoint, FailsToCheckpoint}
use Rattle.object_store.proofs.CollectLaws.{settled_reach}

kept_quiet : {D : Type 0} (v : LoggedView D) (held : List (Option ℕ)) → IsQuiet (state_of v) → IsKept v held
kept_quiet v held q = λ f. inl q

-- a call failed before
pub has_failed : (o f : Option FailedCall) → f ≡ o → is_some f ≡ true → o ≢ None
has_failed o f e s n = absurd (let m : is_some f ≡ false = ap (λ (x : Option FailedCall). is_some x) (e ∙ n) in cc)

pub none_failed : (o f : Option FailedCall) → f ≡ o → is_some f ≡ false → o ≡ None
none_failed o f e s = sym e ∙ is_none f s
  where
    is_none : (x : Option FailedCall) → is_some x ≡ false → x ≡ None
    is_none None h = refl
    is_none (Some x) h = absurd (cc)

-- ---- the collector

pub some_reach : {D : Type 0} (steps : ℕ) (m w : LoggedView D) (r : Result ℕ StoreError) → IfOk r (λ left. MakesUpTo steps left m w) → IfErr r (λ why. MakesShort steps why m w) → IsSettled (end_of m.journal.history) → IsSettled (end_of w.journal.history)
    → SameReachable (state_of w).committed (state_of m).committed
some_reach steps m w (Ok left) makes short a b = settled_reach m w makes.makes.commits a b
some_reach steps m w (Err why) makes short a b = settled_reach m w short.makes.commits a b

collects_of : {D : Type 0} {n : Tending} (events : ℕ) (u m w : LoggedView D) (held : List (Option ℕ)) → Ends u m → MakesEvents events m w → SameReachable (state_of w).committed (state_of m).committed → Collects (store_at n u held) (store_at n w held)
collects_of events u m w held e makes reach = record {
  closed = makes.quiet;
  reach = subst (λ (g : List Object). SameReachable (state_of w).committed g) e.committed reach;
  removes = λ id o there. subst (λ (g : List Object). object_at g id ≡ Some o) e.committed (makes.removes id o there);
  running = makes.running;
  tending = refl;
  disk = record { disk = makes.disk.disk ∙ e.disk.disk; durable = makes.disk.durable ∙ e.disk.durable };
}

pub record CollectTold {D : Type 0} (steps : ℕ) (r : Result ℕ StoreError) (old new : StoreView D) : Type 0 where
  pub collects : IfOk r (λ left. CollectsUpTo steps left old new)
  pub waiting : IfOk r (λ left. left ≡ waiting_of new)
  pub exact : r ≡ Ok 0 → StoresReached new
  pub failed : IfErr r (λ why. FailsToCollect steps why old new)

fails_to_collect : {D : Type 0} (steps : ℕ) (why : StoreError) (old new : StoreView D) → CollectsShort steps why old new → FailsToCollect steps why old new
fails_to_collect steps error.NotHeld old new c = c
fails_to_collect steps error.NoSuchSlot old new c = c
fails_to_collect steps error.TooManyReferences old new c = c
fails_to_collect steps error.Full old new c = c
fails_to_collect steps error.Memory old new c = c
fails_to_collect steps error.HistoryFull old new c = c
fails_to_collect steps error.LogFull old new c = c
fails_to_collect steps error.Disk old new c = c
fails_to_collect steps error.Ended old new c = c
fails_to_collect steps error.Stopped old new c = absurd c.makes.cause

pub collect_told : {D : Type 0} {n : Tending} (steps : ℕ) (u m w : LoggedView D) (held : List (Option ℕ)) (r : Result ℕ StoreError) → Ends u m → IfOk r (λ left. MakesUpTo steps left m w) → IfOk r (λ left. left ≡ waiting_in w) → (r ≡ Ok 0 → IsExact w) → IfErr r (λ why. MakesShort steps why m w)
    → SameReachable (state_of w).committed (state_of m).committed → CollectTold steps r (store_at n u held) (store_at n w held)
collect_told steps u m w held (Ok left) e makes waits exact short reach = record {
  collects = record { collects = collects_of makes.events u m w held e makes.makes reach; ended = m; ends = e; makes = makes };
  waiting = waits;
  exact = exact;
  failed = tt;
}
collect_told steps u m w held (Err why) e makes waits exact short reach = record {
  collects = tt;
  waiting = tt;
  exact = exact;
  failed = fails_to_collect steps why (store_at _ u held) (store_at _ w held) (record { collects = collects_of short.events u m w held e short.makes reach; ended = m; ends = e; makes = short });
}

pub kept_collected : {D : Type 0} (steps : ℕ) (m w : LoggedView D) (held : List (Option ℕ)) (r : Result ℕ StoreError) → IfOk r (λ left. MakesUpTo steps left m w) → IfErr r (λ why. MakesShort steps why m w) → IsKept w held
kept_collected steps m w held (Ok left) makes short = kept_quiet w held makes.makes.quiet
kept_collected steps m w held (Err why) makes short = kept_quiet w held short.makes.quiet

-- ---- checkpoints

pub record CheckpointTold {D : Type 0} (faults : D → ℕ) (may_leave : D → Area → List ℕ → Type 0) (r : Result (Unit {0}) StoreError) (old new : StoreView D) : Type 0 where
  pub done : OnOk r (Checkpoints may_leave old new)
  pub failed : IfErr r (λ why. FailsToCheckpoint faults why old new)

misses : {D : Type 0} {n : Tending} (faults : D → ℕ) (why : StoreError) (u m w : LoggedView D) (held : List (Option ℕ)) → Ends u m → state_of w ≡ state_of m → IsQuiet (state_of m) → TurnsNot faults why m w → MissesCheckpoint faults why (store_at n u held) (store_at n w held)
misses faults why u m w held e same q t = record {
  closed = ap (λ (s : State). s.active) same ∙ q;
  committed = ap (λ (s : State). s.committed) same ∙ e.committed;
  tending = refl;
  ended = m;
  ends = e;
  turns = t;
}

state_failed : {D : Type 0} (faults : D → ℕ) (m w : LoggedView D) → FailsUpkeep faults m w → state_of w ≡ state_of m
state_failed faults m w f = ap (λ (j : JournalView). (end_of j.history).state) f.journal

state_unturned : {D : Type 0} (why : StoreError) (m w : LoggedView D) → StaysUnturned why m w → state_of w ≡ state_of m
state_unturned why m w s = ap (λ (x : Moment). x.state) s.same

fails_checkpoint : {D : Type 0} (n : Tending) (faults : D → ℕ) (why : StoreError) (u m w : LoggedView D) (held : List (Option ℕ)) → Ends u m → IsQuiet (state_of m) → TurnsNot faults why m w → FailsToCheckpoint faults why (store_at n u held) (store_at n w held)
fails_checkpoint n faults error.NotHeld u m w held e q t = misses faults error.NotHeld u m w held e (state_unturned error.NotHeld m w t) q t
fails_checkpoint n faults error.NoSuchSlot u m w held e q t = misses faults error.NoSuchSlot u m w held e (state_unturned error.NoSuchSlot m w t) q t
fails_checkpoint n faults error.TooManyReferences u m w held e q t = misses faults error.TooManyReferences u m w held e (state_unturned error.TooManyReferences m w t) q t
fails_checkpoint n faults error.Full u m w held e q t = misses faults error.Full u m w held e (state_unturned error.Full m w t) q t
fails_checkpoint n faults error.Memory u m w held e q t = misses faults error.Memory u m w held e (state_unturned error.Memory m w t) q t
fails_checkpoint n faults error.HistoryFull u m w held e q t = misses faults error.HistoryFull u m w held e (state_unturned error.HistoryFull m w t) q t
fails_checkpoint n faults error.LogFull u m w held e q t = misses faults error.LogFull u m w held e (state_unturned error.LogFull m w t) q t
fails_checkpoint n faults error.Ended u m w held e q t = misses faults error.Ended u m w held e (state_unturned error.Ended m w t) q t
fails_checkpoint n faults error.Disk u m w held e q t = misses faults error.Disk u m w held e (state_failed faults m w t) q t
fails_checkpoint n faults error.Stopped u m w held e q t = absurd t.cause

pub checkpoint_told : {D : Type 0} {n : Tending} (faults : D → ℕ) (may_leave : D → Area → List ℕ → Type 0) (u m w : LoggedView D) (held : List (Option ℕ)) (r : Result (Unit {0}) StoreError) → Ends u m → IsQuiet (state_of m) → OnOk r (TurnsLog may_leave m w) → IfErr r (λ why. TurnsNot faults why m w)
    → CheckpointTold faults may_leave r (store_at n u held) (store_at n w held)
checkpoint_told faults may_leave u m w held (Ok x) e q turns fails = record {
  done = record {
    closed = ap (λ (n : Moment). n.state.active) turns.same ∙ q;
    committed = ap (λ (n : Moment). n.state.committed) turns.same ∙ e.committed;
    tending = refl;
    ended = m;
    ends = e;
    turns = turns;
  };
  failed = tt;
}
checkpoint_told faults may_leave u m w held (Err why) e q turns fails = record { done = tt; failed = fails_checkpoint _ faults why u m w held e q fails }

kept_fails : {D : Type 0} (faults : D → ℕ) (why : StoreError) (m w : LoggedView D) (held : List (Option ℕ)) → IsQuiet (state_of m) → TurnsNot faults why m w → IsKept w held
kept_fails faults error.NotHeld m w held q t = kept_quiet w held (ap (λ (s : State). s.active) (state_unturned error.NotHeld m w t) ∙ q)
kept_fails faults error.NoSuchSlot m w held q t = kept_quiet w held (ap (λ (s : State). s.active) (state_unturned error.NoSuchSlot m w t) ∙ q)
kept_fails faults error.TooManyReferences m w held q t = kept_quiet w held (ap (λ (s : State). s.active) (state_unturned error.TooManyReferences m w t) ∙ q)
kept_fails faults error.Full m w held q t = kept_quiet w held (ap (λ (s : State). s.active) (state_unturned error.Full m w t) ∙ q)
kept_fails faults error.Memory m w held q t = kept_quiet w held (ap (λ (s : State). s.active) (state_unturned error.Memory m w t) ∙ q)
kept_fails faults error.HistoryFull m w held q t = kept_quiet w held (ap (λ (s : State). s.active) (state_unturned error.HistoryFull m w t) ∙ q)
kept_fails faults error.LogFull m w held q t = kept_quiet w held (ap (λ (s : State). s.active) (state_unturned error.LogFull m w t) ∙ q)
kept_fails faults error.Ended m w held q t = kept_quiet w held (ap (λ (s : State). s.active) (state_unturned error.Ended m w t) ∙ q)
kept_fails faults error.Stopped m w held q t = kept_quiet w held (ap (λ (s : State). s.active) (state_unturned error.Stopped m w t) ∙ q)
kept_fails faults error.Disk m w held q t = kept_quiet w held (ap (λ (s : State). s.active) (state_failed faults m w t) ∙ q)

pub kept_turned : {D : Type 0} (faults : D → ℕ) (may_leave : D → Area → List ℕ → Type 0) (m w : LoggedView D) (held : List (Option ℕ)) (r : Result (Unit {0}) StoreError) → IsQuiet (state_of m) → OnOk r (TurnsLog may_leave m w) → IfErr r (λ why. TurnsNot faults why m w) → IsKept w held
kept_turned faults may_leave m w held (Ok x) q turns fails = kept_quiet w held (ap (λ (n : Moment). n.state.active) turns.same ∙ q)
kept_turned faults may_leave m w held (Err why) q turns fails = kept_fails faults why m w held q fails

-- at each moment from before what was open was ended
pub checkpoint_opens : {D : Type 0} (moment : D → ℕ) (left_since : D → ℕ → Bytes → Type 0) (u m w : LoggedView D) → Ends u m → LeavesOnlyImages moment left_since m.disk w.disk (OpensToReach (state_of m).committed) → LeavesOnlyImages moment left_since u.disk w.disk (OpensToReach (state_of u).committed)
checkpoint_opens {D} moment left_since u m w e opens =
    subst (λ (g : List Object). LeavesOnlyImages moment left_since u.disk w.disk (OpensToReach g)) e.committed
    (subst (λ (d : D). LeavesOnlyImages moment left_since d w.disk (OpensToReach (state_of m).committed)) e.disk.disk opens)
