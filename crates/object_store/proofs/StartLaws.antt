-- How transactions of a handle begin and end.
use Rattle.std.proofs.Common.{◌≡◌, ◌≢◌, ℕ, List, Option, Some, None, Result, Ok, Err, refl, sym, ap, ◌∙◌, subst, inl, inr, ⊎_elim}
use Rattle.std.specs.Prelude.{IfErr, OnOk}
use Rattle.plain_model.specs.declared.calls.Call.TheVariants as call
use Rattle.plain_model.specs.declared.calls.Reply.TheVariants as reply
use Rattle.plain_model.specs.Machine.{State}
use Rattle.gate_log.specs.State.{used}
use Rattle.logged_journal.specs.View.{LoggedView}
use Rattle.logged_journal.specs.Calls.{KeepsDisk}
use Rattle.object_store.specs.declared.tending.Tending.{Tending}
use Rattle.object_store.specs.declared.error.StoreError.{StoreError}
use Rattle.object_store.specs.declared.error.StoreError.TheVariants as error
use Rattle.object_store.specs.Seen.{client, state_of, IsQuiet}
use Rattle.object_store.specs.Calls.{Does, IsShort, IsShortOf}
use Rattle.object_store.specs.Handles.{StoreView, store_at, only_root, IsOpen, IsKept}
use Rattle.object_store.specs.Ends.{Ends, HasBegun, HasNotBegun, HasCommitted, HasNotCommitted}
use Rattle.object_store.specs.Steps.{Begins, FailsToBegin, Aborts, Commits, FailsToCommit}
use Rattle.object_store.proofs.EndLaws.{IsAtMostOne}
use Rattle.object_store.proofs.KeptLaws.{is_live_of, kept_of}

pub at_most_one : {D : Type 0} (v : LoggedView D) (held : List (Option ℕ)) → IsKept v held → IsAtMostOne v
at_most_one v held kept = λ f. ⊎_elim (λ (q : IsQuiet (state_of v)). inl q) (λ (o : IsOpen v held). inr o.alone) (kept f)

disk_more : {D : Type 0} (u v w : LoggedView D) → KeepsDisk u v → KeepsDisk v w → KeepsDisk u w
disk_more u v w a b = record { disk = b.disk ∙ a.disk; durable = b.durable ∙ a.durable }

-- ---- beginning

pub quiet_between : {D : Type 0} (u m : LoggedView D) → Ends u m → m.failed ≡ None → IsQuiet (state_of m)
quiet_between u m e f = e.quiet (sym e.failed ∙ f)

pub kept_begun : {D : Type 0} (m w : LoggedView D) → HasBegun m w → IsKept w only_root
kept_begun m w b = kept_of (record { alone = b.live.alone; rooted = refl; known = λ r id e. b.registers r ∙ e })

-- where nothing is open, nothing is to be ended
pub ends_self : {D : Type 0} (u : LoggedView D) → (u.failed ≡ None → IsQuiet (state_of u)) → Ends u u
ends_self u quiet = record { quiet = quiet; committed = refl; failed = refl; disk = record { disk = refl; durable = refl }; same = λ q. refl }

pub begins_of : {D : Type 0} (n k : Tending) (u m w : LoggedView D) (held : List (Option ℕ)) → Ends u m → HasBegun m w → k.begun ≡ used u.log → k.log ≡ n.log → k.steps ≡ n.steps → Begins (store_at n u held) (store_at k w only_root)
begins_of {D} n k u m w held e b begun soft steps = record {
  live = is_live_of w only_root b.live;
  graph = b.graph ∙ e.committed;
  committed = b.committed ∙ e.committed;
  held = refl;
  begun = begun;
  soft_limit = soft;
  steps = steps;
  disk = disk_more u m w e.disk b.does.disk;
  made = λ q. subst (λ (x : LoggedView D). Does call.Begin reply.Done x w) (e.same q) b.does;
}

pub record NotStarted {D : Type 0} (n : Tending) (why : StoreError) (u w : LoggedView D) (held : List (Option ℕ)) : Type 0 where
  pub kept : IsKept w held
  pub fails : FailsToBegin why (store_at n u held) (store_at n w held)

-- something was short
not_short : {D : Type 0} {n : Tending} (u m w : LoggedView D) (held : List (Option ℕ)) (why : StoreError) → why ≢ error.Stopped → Ends u m → m.failed ≡ None → IsShort call.Begin why m w → NotStarted n why u w held
not_short {D} u m w held why other e f s =
    let quiet : IsQuiet (state_of w) = ap (λ (x : State). x.active) s.same ∙ quiet_between u m e f in
    record {
      kept = λ _. inl quiet;
      fails = record {
        stopped = λ x. absurd (other x);
        only_stopped = λ n. absurd (n (sym e.failed ∙ f));
        cause = λ _ q. subst (λ (x : LoggedView D). IsShortOf call.Begin why x) (e.same q) s.cause;
        closed = λ _. quiet;
        committed = ap (λ (x : State). x.committed) s.same ∙ e.committed;
        tending = refl;
        disk = disk_more u m w e.disk s.disk;
      };
    }

pub fails_of : {D : Type 0} {n : Tending} (u m w : LoggedView D) (held : List (Option ℕ)) (why : StoreError) → Ends u m → HasNotBegun why m w → NotStarted n why u w held
fails_of {D} u m w held error.Stopped e h =
    let same : w ≡ m = h.1 in
    record {
      kept = λ f. absurd (h.0 (ap (λ (x : LoggedView D). x.failed) (sym same) ∙ f));
      fails = record {
        stopped = λ _ f. h.0 (e.failed ∙ f);
        only_stopped = λ _. refl;
        cause = λ n. absurd (n refl);
        closed = λ n. absurd (n refl);
        committed = ap (λ (x : LoggedView D). (state_of x).committed) same ∙ e.committed;
        tending = refl;
        disk = record { disk = ap (λ (x : LoggedView D). x.disk) same ∙ e.disk.disk; durable = ap (λ (x : LoggedView D). x.durable) same ∙ e.disk.durable };
      };
    }
fails_of u m w held error.NotHeld e h = not_short u m w held error.NotHeld (λ x. absurd (cc)) e h.0 h.2
fails_of u m w held error.NoSuchSlot e h = not_short u m w held error.NoSuchSlot (λ x. absurd (cc)) e h.0 h.2
fails_of u m w held error.TooManyReferences e h = not_short u m w held error.TooManyReferences (λ x. absurd (cc)) e h.0 h.2
fails_of u m w held error.Full e h = not_short u m w held error.Full (λ x. absurd (cc)) e h.0 h.2
fails_of u m w held error.Memory e h = not_short u m w held error.Memory (λ x. absurd (cc)) e h.0 h.2
fails_of u m w held error.HistoryFull e h = not_short u m w held error.HistoryFull (λ x. absurd (cc)) e h.0 h.2
fails_of u m w held error.LogFull e h = not_short u m w held error.LogFull (λ x. absurd (cc)) e h.0 h.2
fails_of u m w held error.Disk e h = not_short u m w held error.Disk (λ x. absurd (cc)) e h.0 h.2
fails_of u m w held error.Ended e h = not_short u m w held error.Ended (λ x. absurd (cc)) e h.0 h.2

-- ---- ending

pub kept_ended : {D : Type 0} (v w : LoggedView D) (held : List (Option ℕ)) → Ends v w → IsKept w held
kept_ended v w held e = λ f. inl (e.quiet (sym e.failed ∙ f))

pub aborts_of : {D : Type 0} {n : Tending} (v w : LoggedView D) (held : List (Option ℕ)) → v.failed ≡ None → Ends v w → Aborts (store_at n v held) (store_at n w held)
aborts_of v w held running e = record { closed = e.quiet running; committed = e.committed; running = e.failed ∙ running; tending = refl; disk = e.disk }

pub record CommitTold {D : Type 0} (faults : D → ℕ) (r : Result (Unit {0}) StoreError) (old new : StoreView D) : Type 0 where
  pub done : OnOk r (Commits old new)
  pub failed : IfErr r (λ why. FailsToCommit faults old new why)

not_told : {D : Type 0} (n : Tending) (faults : D → ℕ) (v w : LoggedView D) (held : List (Option ℕ)) (why : StoreError) → v.failed ≡ None → HasNotCommitted faults why v w → FailsToCommit faults (store_at n v held) (store_at n w held) why
not_told n faults v w held error.Disk running h = h
not_told n faults v w held error.NotHeld running h = (h.0, aborts_of v w held running h.1)
not_told n faults v w held error.NoSuchSlot running h = (h.0, aborts_of v w held running h.1)
not_told n faults v w held error.TooManyReferences running h = (h.0, aborts_of v w held running h.1)
not_told n faults v w held error.Full running h = (h.0, aborts_of v w held running h.1)
not_told n faults v w held error.Memory running h = (h.0, aborts_of v w held running h.1)
not_told n faults v w held error.HistoryFull running h = (h.0, aborts_of v w held running h.1)
not_told n faults v w held error.LogFull running h = (h.0, aborts_of v w held running h.1)
not_told n faults v w held error.Stopped running h = (h.0, aborts_of v w held running h.1)
not_told n faults v w held error.Ended running h = absurd h.0

pub commit_told : {D : Type 0} {n : Tending} (faults : D → ℕ) (v w : LoggedView D) (held : List (Option ℕ)) (r : Result (Unit {0}) StoreError) → v.failed ≡ None → OnOk r (HasCommitted v w) → IfErr r (λ why. HasNotCommitted faults why v w) → CommitTold faults r (store_at n v held) (store_at n w held)
commit_told faults v w held (Ok x) running done failed = record {
  done = record { closed = done.quiet; committed = done.committed; durable = done.durable; running = done.running; tending = refl; made = done.does };
  failed = tt;
}
commit_told faults v w held (Err why) running done failed = record { done = tt; failed = not_told _ faults v w held why running failed }

kept_not : {D : Type 0} (faults : D → ℕ) (v w : LoggedView D) (held : List (Option ℕ)) (why : StoreError) → HasNotCommitted faults why v w → IsKept w held
kept_not faults v w held error.Disk h = λ f. absurd (let told : w.failed ≡ Some (record { commit = Some client; faults = faults w.disk }) = h.told in cc)
kept_not faults v w held error.NotHeld h = kept_ended v w held h.1
kept_not faults v w held error.NoSuchSlot h = kept_ended v w held h.1
kept_not faults v w held error.TooManyReferences h = kept_ended v w held h.1
kept_not faults v w held error.Full h = kept_ended v w held h.1
kept_not faults v w held error.Memory h = kept_ended v w held h.1
kept_not faults v w held error.HistoryFull h = kept_ended v w held h.1
kept_not faults v w held error.LogFull h = kept_ended v w held h.1
kept_not faults v w held error.Stopped h = kept_ended v w held h.1
kept_not faults v w held error.Ended h = kept_ended v w held h.1

pub kept_committed : {D : Type 0} (faults : D → ℕ) (v w : LoggedView D) (held : List (Option ℕ)) (r : Result (Unit {0}) StoreError) → OnOk r (HasCommitted v w) → IfErr r (λ why. HasNotCommitted faults why v w) → IsKept w held
kept_committed faults v w held (Ok x) done failed = λ _. inl done.quiet
kept_committed faults v w held (Err why) done failed = kept_not faults v w held why failed
