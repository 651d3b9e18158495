-- A transaction is committed, or something is short.
use Rattle.std.proofs.Common.{◌≡◌, ◌≢◌, ◌↔◌, ℕ, Some, None, refl, sym, ap, ◌∙◌, subst, true, false, ⊎_elim, length}
use Rattle.std.specs.Prelude.{IsSome, if◌then◌else◌}
use Rattle.std.specs.Option.{option_map_or}
use Rattle.disk_model.specs.Areas.{Bytes}
use Rattle.disk_model.specs.Time.{LeavesOnlyImages}
use Rattle.plain_model.specs.ActiveTransaction.{ActiveTransaction}
use Rattle.plain_model.specs.declared.calls.Call.TheVariants as call
use Rattle.plain_model.specs.declared.calls.Reply.{Reply}
use Rattle.plain_model.specs.declared.calls.Reply.TheVariants as reply
use Rattle.plain_model.specs.Machine.{State, refusal_of, refusal_in, refusal_out}
use Rattle.plain_model.specs.History.{end_of}
use Rattle.core_store.specs.JournalView.{JournalView}
use Rattle.core_store.specs.Limited.{is_past_limit}
use Rattle.logged_journal.specs.View.{LoggedView}
use Rattle.logged_journal.specs.Calls.{IsOfJournal, IsGranted, IsPastLog, DoesCall, KeepsDisk, GoesOn}
use Rattle.object_store.specs.declared.error.StoreError.{StoreError}
use Rattle.object_store.specs.declared.error.StoreError.TheVariants as error
use Rattle.object_store.specs.Seen.{object_slots, client, state_of, open_in, IsAlone, IsLive}
use Rattle.object_store.specs.Calls.{IsShortOf, IsWant, error_of}
use Rattle.object_store.specs.Ends.{Ends, HasCommitted, HasNotCommitted}
use Rattle.object_store.proofs.AloneLaws.{CommitsTo, commits, its_transaction, none_open}
use Rattle.object_store.proofs.AskLaws.{IsDone, want_or_done, of_live, none_failed, stepped}

-- the commit of a live transaction isn't refused
granted : (s : State) → IsAlone s → refusal_of s client call.Commit ≡ None
granted s a =
    ap (λ o. option_map_or (λ (t : ActiveTransaction). refusal_in s client t call.Commit) o (refusal_out call.Commit)) (its_transaction s a)
    ∙ ap (λ b. if b then Some reply.Aborting else None) a.running

-- ---- it is done

pub has_committed : {D : Type 0} (v w : LoggedView D) → IsLive v → DoesCall object_slots v.journal w.journal client call.Commit reply.Done → GoesOn v w → w.durable ≡ length w.journal.notes → HasCommitted v w
has_committed v w l d g durable =
    let C : CommitsTo (state_of v) (state_of w) reply.Done = commits (state_of v) (state_of w) reply.Done l.alone (stepped v.journal w.journal call.Commit reply.Done d (λ e. absurd (cc), λ e. absurd (cc))) in
    record { does = d; goes_on = g; quiet = C.quiet; committed = C.committed; durable = durable; running = g.running }

-- ---- something is short

-- the clauses of the call
pub record CommitAnswers {D : Type 0} (r : Reply) (v m : LoggedView D) : Type 0 where
  pub only_stopped : (n : ℕ) → r ≡ reply.Stopped n → IsSome v.failed
  pub does : IsOfJournal r → DoesCall object_slots v.journal m.journal client call.Commit r
  pub goes_on : IsOfJournal r → GoesOn v m
  pub log_full : (r ≡ reply.LogFull) ↔ IsPastLog v client call.Commit
  pub marked : r ≡ reply.LogFull → m ≡ record v { log_full = true }
  pub memory : refusal_of (end_of v.journal.history).state client call.Commit ≡ None → r ≢ reply.Memory
  pub untouched : (IsGranted v.journal client call.Commit → ⊥) → KeepsDisk v m

-- what such a call leaves
pub record Wanted {D : Type 0} (r : Reply) (v m : LoggedView D) : Type 0 where
  pub cause : IsShortOf call.Commit (error_of r) v
  pub same : state_of m ≡ state_of v
  pub running : m.failed ≡ None
  pub disk : KeepsDisk v m

wanted : {D : Type 0} (v m : LoggedView D) (r : Reply) → IsLive v → CommitAnswers r v m → IsWant r → Wanted r v m
wanted v m reply.Memory l a h = absurd (a.memory (granted (state_of v) l.alone) refl)
wanted v m reply.TraceFull l a h =
    let full : is_past_limit v.journal 1 ≡ true = (a.does tt).full.0 refl in
    record {
      cause = full;
      same = ap (λ (j : JournalView). (end_of j.history).state) ((a.does tt).marked refl);
      running = (a.goes_on tt).running;
      disk = a.untouched (λ g. absurd (let room : is_past_limit v.journal 1 ≡ false = g.room in cc));
    }
wanted {D} v m reply.LogFull l a h = record {
  cause = a.log_full.0 refl;
  same = ap (λ (x : LoggedView D). state_of x) (a.marked refl);
  running = ap (λ (x : LoggedView D). x.failed) (a.marked refl) ∙ l.running;
  disk = record { disk = ap (λ (x : LoggedView D). x.disk) (a.marked refl); durable = ap (λ (x : LoggedView D). x.durable) (a.marked refl) };
}
wanted v m (reply.Stopped faults) l a h = absurd h
wanted v m reply.DiskFault l a h = absurd h
wanted v m (reply.Again word seat) l a h = absurd h
wanted v m reply.Done l a h = absurd h
wanted v m (reply.Id id) l a h = absurd h
wanted v m (reply.Pay payload) l a h = absurd h
wanted v m reply.NoTxn l a h = absurd h
wanted v m reply.HasTxn l a h = absurd h
wanted v m reply.Aborting l a h = absurd h
wanted v m (reply.EmptyRegister reg) l a h = absurd h
wanted v m reply.NotShared l a h = absurd h
wanted v m (reply.Busy pass) l a h = absurd h
wanted v m reply.Full l a h = absurd h

-- an answer but `Done` and `DiskFault` is that something is short
pub only_wanted : {D : Type 0} (v m : LoggedView D) (r : Reply) → IsLive v → CommitAnswers r v m → r ≢ reply.Done → r ≢ reply.DiskFault → Wanted r v m
only_wanted v m r l a other fault = ⊎_elim
    (λ (h : IsWant r). wanted v m r l a h)
    (λ (h : IsDone r).
    let C : CommitsTo (state_of v) (state_of m) r = commits (state_of v) (state_of m) r l.alone (stepped v.journal m.journal call.Commit r (a.does h.1) h.0) in
    absurd (other C.told))
    (want_or_done r (of_live r (λ n e. none_failed v.failed l.running (a.only_stopped n e)) fault))

-- then what is open is ended
pub alone_still : {D : Type 0} (v m : LoggedView D) (r : Reply) → IsLive v → Wanted r v m → IsAlone (state_of m)
alone_still v m r l want = subst IsAlone (sym want.same) l.alone

pub ends_wanted : {D : Type 0} (v m w : LoggedView D) (r : Reply) → IsLive v → Wanted r v m → Ends m w → Ends v w
ends_wanted v m w r l want e = record {
  quiet = λ f. e.quiet want.running;
  committed = e.committed ∙ ap (λ (s : State). s.committed) want.same;
  failed = e.failed ∙ want.running ∙ sym l.running;
  disk = record { disk = e.disk.disk ∙ want.disk.disk; durable = e.disk.durable ∙ want.disk.durable };
  same = λ q. absurd (let none : open_in (state_of v) ≡ None = none_open (state_of v) q in let some = its_transaction (state_of v) l.alone in cc);
}

pub not_committed : {D : Type 0} (faults : D → ℕ) (why : StoreError) (r : Reply) (v w : LoggedView D) → why ≡ error_of r → IsShortOf call.Commit (error_of r) v → Ends v w → HasNotCommitted faults why v w
not_committed faults why r v w e cause ends = by why (subst (λ y. IsShortOf call.Commit y v) (sym e) cause)
  where
    by : (y : StoreError) → IsShortOf call.Commit y v → HasNotCommitted faults y v w
    by error.Disk short = absurd short
    by error.NotHeld short = (short, ends)
    by error.NoSuchSlot short = (short, ends)
    by error.TooManyReferences short = (short, ends)
    by error.Full short = (short, ends)
    by error.Memory short = (short, ends)
    by error.HistoryFull short = (short, ends)
    by error.LogFull short = (short, ends)
    by error.Stopped short = (short, ends)
    by error.Ended short = (short, ends)

-- the disk is as the call left it
pub leaves_same : {D : Type 0} (moment : D → ℕ) (left_since : D → ℕ → Bytes → Type 0) (a b c : D) (P : Bytes → Type 0) → LeavesOnlyImages moment left_since a b P → c ≡ b → LeavesOnlyImages moment left_since a c P
leaves_same moment left_since a b c P h e = subst (λ x. LeavesOnlyImages moment left_since a x P) (sym e) h
