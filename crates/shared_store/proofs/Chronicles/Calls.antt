-- What a call of a client makes of a chronicle.
use Rattle.std.proofs.Common.{◌≡◌, ◌≢◌, ◌⊎◌, ℕ, List, true, false, Option, Some, None, refl, sym, ap, subst, ◌∙◌, inl, inr}
use Rattle.std.specs.Prelude.{IfSome, IsSome}
use Rattle.plain_model.specs.declared.calls.Call.{Call as TransactionCall}
use Rattle.plain_model.specs.declared.calls.Call.TheVariants as call
use Rattle.plain_model.specs.declared.calls.Reply.{Reply}
use Rattle.plain_model.specs.declared.calls.Reply.TheVariants as reply
use Rattle.plain_model.specs.declared.calls.Entry.TheVariants.{Call}
use Rattle.plain_model.specs.Machine.{refusal_of}
use Rattle.plain_model.specs.History.{end_of}
use Rattle.plain_model.proofs.StepLaws.{step-plain, is_plain}
use Rattle.log_record.specs.Spelling.{IsPass}
use Rattle.core_store.specs.declared.act.Act.TheVariants.{Other}
use Rattle.core_store.specs.declared.note.Note.{Note}
use Rattle.core_store.specs.declared.three.HeldFrame.{HeldFrame}
use Rattle.core_store.specs.Frames.{is_held}
use Rattle.core_store.specs.JournalView.{JournalView, cells_of}
use Rattle.core_store.specs.Logged.{logged_by}
use Rattle.core_store.specs.RoundView.{left_of}
use Rattle.core_store.specs.Steppings.{IsEntered}
use Rattle.logged_journal.specs.declared.failed.FailedCall.{FailedCall}
use Rattle.logged_journal.specs.View.{LoggedView, failed_commit}
use Rattle.logged_journal.specs.Kept.{CanCommit}
use Rattle.logged_journal.specs.Calls.{IsOfJournal, DoesCall, GoesOn, KeepsFrames, FailsCommit}
use Rattle.shared_store.specs.Chronicles.Steps.{no_mark, disk_mark, trace_mark, entered_by_call, marked_by_call, GoesOnWith}
use Rattle.shared_store.specs.Chronicles.Inside.{FitFrames, IsChronicle}
use Rattle.shared_store.proofs.Chronicles.Notes.{no-commit}
use Rattle.shared_store.proofs.Chronicles.Goings.{Came, stays-by, commit-same, some-same, marks-same, marks-disk, marks-trace, came-still, came-stopped, came-full, came-joined, fails-goes_on}

-- what a call of a journal with its log says
pub record Applied {D : Type 0} (faults : D → ℕ) (slots : ℕ) (old new : LoggedView D) (held held_new : List (HeldFrame slots)) (pass : ℕ) (c : TransactionCall) (r : Reply) : Type 0 where
  pub client : IsPass pass
  pub own : old.journal.history.slots ≡ slots
  pub owned : new.journal.history.slots ≡ slots
  pub before : IsChronicle slots old
  pub stopped : IfSome old.failed (λ f. (r ≡ reply.Stopped f.faults) × (new ≡ old) × (held_new ≡ held))
  pub only_stopped : (n : ℕ) → r ≡ reply.Stopped n → IsSome old.failed
  pub log_marked : r ≡ reply.LogFull → (new ≡ record old { log_full = true }) × (held_new ≡ held)
  pub does : IsOfJournal r → DoesCall slots old.journal new.journal pass c r
  pub goes_on : IsOfJournal r → GoesOn old new
  pub frames : KeepsFrames old.journal new.journal held held_new
  pub same : (r ≡ reply.TraceFull) ⊎ (r ≡ reply.Memory) → held_new ≡ held
  pub fault : r ≡ reply.DiskFault → FailsCommit faults old new pass c × (held_new ≡ held)

module _ {D : Type 0} (faults : D → ℕ) (slots : ℕ) (old new : LoggedView D) (held held_new : List (HeldFrame slots)) (pass : ℕ) (c : TransactionCall) where
  -- a reply that enters the history
  entered : (r : Reply) → Applied faults slots old new held held_new pass c r → old.failed ≡ None → IsOfJournal r → IsEntered r → Came slots old new held held_new (Some (Call pass c r)) no_mark
  entered r a before of enters =
      let does = a.does of in
      let goes = a.goes_on of in
      let n : Note = record { entry = Call pass c r; logged = logged_by (end_of old.journal.history).state (cells_of old.journal) pass c; left = left_of slots new.journal.round; act = Other } in
      came-joined slots old new held held_new n a.own a.owned a.before
      (record { history = does.entry enters; notes = does.noted enters; opening = does.opening.0; limits = does.opening.1; opened = goes.opened; before = before; running = goes.running })
      a.frames (ap (λ m. m.trace) (does.unmarked enters)) goes.log_full

  full : Applied faults slots old new held held_new pass c reply.TraceFull → old.failed ≡ None → Came slots old new held held_new None trace_mark
  full a before =
      let does = a.does tt in
      let goes = a.goes_on tt in
      let is = does.marked refl in
      came-still slots old new held held_new trace_mark a.before
      (stays-by old new (record old.journal { marks = record old.journal.marks { trace = true } }) is refl refl refl refl goes.opened (commit-same old new before goes.running))
      (a.same (inl refl))
      (marks-trace old new (some-same old new before goes.running) (ap (λ (j : JournalView). j.marks.trace) is) goes.log_full)

  starved : Applied faults slots old new held held_new pass c reply.Memory → old.failed ≡ None → Came slots old new held held_new None no_mark
  starved a before =
      let does = a.does tt in
      let goes = a.goes_on tt in
      let is = does.memory refl in
      came-still slots old new held held_new no_mark a.before
      (stays-by old new old.journal is refl refl refl refl goes.opened (commit-same old new before goes.running))
      (a.same (inr refl))
      (marks-same old new (some-same old new before goes.running) (ap (λ (j : JournalView). j.marks.trace) is) goes.log_full)

  fails : Applied faults slots old new held held_new pass c reply.DiskFault → old.failed ≡ None → Came slots old new held held_new (Some (Call pass c reply.DiskFault)) disk_mark
  fails a before =
      let f = (a.fault refl).0 in
      let told : failed_commit new ≡ Some pass = rw (f.told) refl in
      record {
        goes = subst (λ (x : TransactionCall). GoesOnWith slots (is_held held) old new (Some (Call pass x reply.DiskFault)) disk_mark) (sym f.commit)
            (fails-goes_on slots old new a.own a.owned (is_held held) pass f.journal f.opened (no-commit old before) told
            (marks-disk old new _ f.told (inl before) (ap (λ (j : JournalView). j.marks.trace) f.journal) f.marks.0));
        rest = λ e. absurd (cc);
        chronicle = record {
          pages = subst (λ (j : JournalView). FitFrames slots j.history.ids (cells_of j)) (sym f.journal) (let b = a.before in b.pages);
          granted = subst (λ (o : Option ℕ). IfSome o (CanCommit new.journal)) (sym told)
              (record { client = a.client; granted = subst (λ (j : JournalView). refusal_of (end_of j.history).state pass call.Commit ≡ None) (sym f.journal) (let g = f.granted in g.granted) });
        };
      }

  -- no call of a journal is answered that somebody else has a word
  pub never-again : (r : Reply) → Applied faults slots old new held held_new pass c r → (word seat : ℕ) → r ≢ reply.Again word seat
  never-again r a word seat is =
      let does = a.does (subst IsOfJournal (sym is) tt) in
      let plain : is_plain r ≡ true = ap is_plain (does.machine ((λ e. absurd (let f = sym is ∙ e in cc), λ e. absurd (let f = sym is ∙ e in cc)))) ∙ step-plain (end_of old.journal.history).state pass c in
      let not : is_plain r ≡ false = ap is_plain is in
      absurd (let e = sym plain ∙ not in cc)

  running : (r : Reply) → Applied faults slots old new held held_new pass c r → old.failed ≡ None → Came slots old new held held_new (entered_by_call pass c r) (marked_by_call r)
  running (reply.Again word seat) a before = absurd (never-again (reply.Again word seat) a word seat refl)
  running (reply.Stopped n) a before = absurd (let s = subst IsSome before (a.only_stopped n refl) in cc)
  running reply.TraceFull a before = full a before
  running reply.Memory a before = starved a before
  running reply.LogFull a before = came-full slots old new held held_new a.before (a.log_marked refl).0 (a.log_marked refl).1
  running reply.DiskFault a before = fails a before
  running reply.Done a before = entered reply.Done a before tt (λ e. absurd (cc), λ e. absurd (cc))
  running (reply.Id n) a before = entered (reply.Id n) a before tt (λ e. absurd (cc), λ e. absurd (cc))
  running (reply.Pay n) a before = entered (reply.Pay n) a before tt (λ e. absurd (cc), λ e. absurd (cc))
  running reply.NoTxn a before = entered reply.NoTxn a before tt (λ e. absurd (cc), λ e. absurd (cc))
  running reply.HasTxn a before = entered reply.HasTxn a before tt (λ e. absurd (cc), λ e. absurd (cc))
  running reply.Aborting a before = entered reply.Aborting a before tt (λ e. absurd (cc), λ e. absurd (cc))
  running (reply.EmptyRegister n) a before = entered (reply.EmptyRegister n) a before tt (λ e. absurd (cc), λ e. absurd (cc))
  running reply.NotShared a before = entered reply.NotShared a before tt (λ e. absurd (cc), λ e. absurd (cc))
  running (reply.Busy n) a before = entered (reply.Busy n) a before tt (λ e. absurd (cc), λ e. absurd (cc))
  running reply.Full a before = entered reply.Full a before tt (λ e. absurd (cc), λ e. absurd (cc))

  pub called : (r : Reply) → Applied faults slots old new held held_new pass c r → Came slots old new held held_new (entered_by_call pass c r) (marked_by_call r)
  called r a = by old.failed refl a.stopped
    where
      by : (o : Option FailedCall) → old.failed ≡ o → IfSome o (λ f. (r ≡ reply.Stopped f.faults) × (new ≡ old) × (held_new ≡ held)) → Came slots old new held held_new (entered_by_call pass c r) (marked_by_call r)
      by None e stopped = running r a e
      by (Some f) e stopped =
          subst (λ (x : Reply). Came slots old new held held_new (entered_by_call pass c x) (marked_by_call x)) (sym stopped.0)
          (came-stopped slots old new held held_new a.before stopped.1 stopped.2 f e)
