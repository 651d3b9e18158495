-- What the steps of an abort and of the collector make of a chronicle.
use Rattle.std.proofs.Common.{◌≡◌, ◌⊎◌, ℕ, List, Bool, true, Option, Some, None, refl, sym, ap, subst, inl, inr}
use Rattle.std.specs.Prelude.{option_map, IfSome, IsSome, IfOk, IfErr, IsErrOf, Result, Ok, Err}
use Rattle.plain_model.specs.declared.calls.Call.TheVariants as call
use Rattle.plain_model.specs.declared.calls.Reply.TheVariants as reply
use Rattle.plain_model.specs.declared.calls.Entry.{Entry}
use Rattle.plain_model.specs.declared.calls.Entry.TheVariants.{Call, Undo, Delete, Hidden}
use Rattle.plain_model.specs.History.{end_of}
use Rattle.log_record.specs.declared.cell_record.CellRecord.{CellRecord}
use Rattle.log_record.specs.declared.cell_record.CellRecord.TheVariants as logs
use Rattle.core_store.specs.declared.abort_step.AbortStep.{AbortStep}
use Rattle.core_store.specs.declared.abort_step.AbortStep.TheVariants.{Undone, Ended}
use Rattle.core_store.specs.declared.act.Act.{Act}
use Rattle.core_store.specs.declared.act.Act.TheVariants.{Other}
use Rattle.core_store.specs.declared.collect.Collect.{Collect}
use Rattle.core_store.specs.declared.collect.Collect.TheVariants as collect
use Rattle.core_store.specs.declared.note.Note.{Note}
use Rattle.core_store.specs.declared.three.HeldFrame.{HeldFrame}
use Rattle.core_store.specs.Collects.{entry_of}
use Rattle.core_store.specs.Collecting.{answer_of}
use Rattle.core_store.specs.JournalView.{JournalView, cells_of}
use Rattle.core_store.specs.Logged.{logged_by_undo}
use Rattle.core_store.specs.Replaced.{next_to_restore}
use Rattle.core_store.specs.RoundView.{left_of}
use Rattle.core_store.specs.Steppings.{MakesEvent}
use Rattle.logged_journal.specs.declared.collect.CollectRefusal.{CollectRefusal}
use Rattle.logged_journal.specs.declared.collect.CollectRefusal.TheVariants as refusal
use Rattle.logged_journal.specs.declared.failed.FailedCall.{FailedCall}
use Rattle.logged_journal.specs.declared.failed.Stopped.{Stopped}
use Rattle.logged_journal.specs.View.{LoggedView}
use Rattle.logged_journal.specs.Calls.{GoesOn, KeepsFrames, DoesAbortStep, DoesCollect}
use Rattle.shared_store.specs.Chronicles.Steps.{no_mark, trace_mark, entered_by_abort_step, marked_by_abort_step, entered_by_collect_step, marked_by_collect_step}
use Rattle.shared_store.specs.Chronicles.Inside.{IsChronicle}
use Rattle.shared_store.proofs.Chronicles.Goings.{Came, stays-by, commit-same, some-same, marks-same, marks-trace, came-still, came-stopped, came-full, came-joined}

-- ---- an abort

-- what a step of an abort says
pub record Aborted {D : Type 0} (slots : ℕ) (old new : LoggedView D) (held held_new : List (HeldFrame slots)) (pass : ℕ) (r : Result AbortStep Stopped) : Type 0 where
  pub own : old.journal.history.slots ≡ slots
  pub owned : new.journal.history.slots ≡ slots
  pub before : IsChronicle slots old
  pub stopped : IfSome old.failed (λ f. (IsErrOf r (record { faults = f.faults })) × (new ≡ old) × (held_new ≡ held))
  pub only_stopped : IfErr r (λ _. IsSome old.failed)
  pub does : IfOk r (λ step. DoesAbortStep slots old.journal new.journal pass step)
  pub goes_on : IfOk r (λ _. GoesOn old new)
  pub frames : KeepsFrames old.journal new.journal held held_new

module _ {D : Type 0} (slots : ℕ) (old new : LoggedView D) (held held_new : List (HeldFrame slots)) (pass : ℕ) where
  abort-running : (r : Result AbortStep Stopped) → Aborted slots old new held held_new pass r → old.failed ≡ None → Came slots old new held held_new (entered_by_abort_step pass r) (marked_by_abort_step r)
  abort-running (Ok Undone) a before =
      let does = a.does in
      let goes = a.goes_on in
      let n : Note = record { entry = Undo pass; logged = option_map (logged_by_undo (cells_of old.journal) pass) (next_to_restore (end_of old.journal.history) pass); left = left_of slots new.journal.round; act = Other } in
      came-joined slots old new held held_new n a.own a.owned a.before
      (record { history = (does.undone refl).1; notes = does.noted_undo refl; opening = does.opening.0; limits = does.opening.1; opened = goes.opened; before = before; running = goes.running })
      a.frames (ap (λ m. m.trace) does.opening.2) goes.log_full
  abort-running (Ok Ended) a before =
      let does = a.does in
      let goes = a.goes_on in
      let n : Note = record { entry = Call pass call.Abort reply.Done; logged = Some (logs.AbortEnd pass); left = left_of slots new.journal.round; act = Other } in
      came-joined slots old new held held_new n a.own a.owned a.before
      (record { history = (does.ended refl).1; notes = does.noted_end refl; opening = does.opening.0; limits = does.opening.1; opened = goes.opened; before = before; running = goes.running })
      a.frames (ap (λ m. m.trace) does.opening.2) goes.log_full
  abort-running (Err stopped) a before = absurd (let s = subst IsSome before a.only_stopped in cc)

  abort-stopped : (r : Result AbortStep Stopped) → Aborted slots old new held held_new pass r → (f : FailedCall) → IsErrOf r (record { faults = f.faults }) → new ≡ old → held_new ≡ held → old.failed ≡ Some f
      → Came slots old new held held_new (entered_by_abort_step pass r) (marked_by_abort_step r)
  abort-stopped (Ok step) a f is same held_same failed = absurd (cc)
  abort-stopped (Err stopped) a f is same held_same failed = came-stopped slots old new held held_new a.before same held_same f failed

  pub abort-stepped : (r : Result AbortStep Stopped) → Aborted slots old new held held_new pass r → Came slots old new held held_new (entered_by_abort_step pass r) (marked_by_abort_step r)
  abort-stepped r a = by old.failed refl a.stopped
    where
      by : (o : Option FailedCall) → old.failed ≡ o → IfSome o (λ f. (IsErrOf r (record { faults = f.faults })) × (new ≡ old) × (held_new ≡ held)) → Came slots old new held held_new (entered_by_abort_step pass r) (marked_by_abort_step r)
      by None e stopped = abort-running r a e
      by (Some f) e stopped = abort-stopped r a f stopped.0 stopped.1 stopped.2 e

-- ---- the collector

-- what a step of the collector says
pub record Collected {D : Type 0} (slots : ℕ) (old new : LoggedView D) (held held_new : List (HeldFrame slots)) (r : Result Collect CollectRefusal) : Type 0 where
  pub own : old.journal.history.slots ≡ slots
  pub owned : new.journal.history.slots ≡ slots
  pub before : IsChronicle slots old
  pub stopped : IfSome old.failed (λ f. (IsErrOf r (refusal.Stopped f.faults)) × (new ≡ old) × (held_new ≡ held))
  pub only_stopped : (n : ℕ) → IsErrOf r (refusal.Stopped n) → IsSome old.failed
  pub log_marked : IsErrOf r refusal.LogFull → (new ≡ record old { log_full = true }) × (held_new ≡ held)
  pub does : IfOk r (λ step. DoesCollect slots old.journal new.journal step)
  pub goes_on : IfOk r (λ _. GoesOn old new)
  pub frames : KeepsFrames old.journal new.journal held held_new
  pub same : IfOk r (λ step. (step ≡ collect.TraceFull) ⊎ (step ≡ collect.Idle) ⊎ (step ≡ collect.Memory) → held_new ≡ held)

-- the entry of an event is told by its answer
hidden-told : (act : Act) (logged : Option CellRecord) (left more : ℕ) (popped : Bool) → collect.Did popped left ≡ answer_of act logged more → entry_of logged ≡ Hidden
hidden-told act (Some (logs.Free id)) left more popped e = absurd (cc)
hidden-told act None left more popped e = refl
hidden-told act (Some other) left more popped e = refl

deleted-told : (act : Act) (logged : Option CellRecord) (left more id : ℕ) → collect.Deleted id left ≡ answer_of act logged more → entry_of logged ≡ Delete id
deleted-told act (Some (logs.Free k)) left more id e = let f : id ≡ k = cc in ap Delete (sym f)
deleted-told act None left more id e = absurd (cc)
deleted-told act (Some other) left more id e = absurd (cc)

module _ {D : Type 0} (slots : ℕ) (old new : LoggedView D) (held held_new : List (HeldFrame slots)) where
  event : (step : Collect) → Collected slots old new held held_new (Ok step) → old.failed ≡ None → (m : MakesEvent slots old.journal new.journal step) → (e : Entry) → entry_of m.logged ≡ e → Came slots old new held held_new (Some e) no_mark
  event step a before m e is =
      let goes = a.goes_on in
      let does = a.does in
      let n : Note = record { entry = entry_of m.logged; logged = m.logged; left = left_of slots new.journal.round; act = m.event } in
      subst (λ (x : Entry). Came slots old new held held_new (Some x) no_mark) is
      (came-joined slots old new held held_new n a.own a.owned a.before
      (record { history = m.entry; notes = m.noted; opening = does.opening.0; limits = does.opening.1; opened = goes.opened; before = before; running = goes.running })
      a.frames (ap (λ k. k.trace) m.marks) goes.log_full)

  still : (step : Collect) → Collected slots old new held held_new (Ok step) → old.failed ≡ None → new.journal ≡ old.journal → held_new ≡ held → Came slots old new held held_new None no_mark
  still step a before is held_same =
      let goes = a.goes_on in
      came-still slots old new held held_new no_mark a.before
      (stays-by old new old.journal is refl refl refl refl goes.opened (commit-same old new before goes.running))
      held_same
      (marks-same old new (some-same old new before goes.running) (ap (λ (j : JournalView). j.marks.trace) is) goes.log_full)

  full : Collected slots old new held held_new (Ok collect.TraceFull) → old.failed ≡ None → Came slots old new held held_new None trace_mark
  full a before =
      let goes = a.goes_on in
      let does = a.does in
      let is = does.marked refl in
      came-still slots old new held held_new trace_mark a.before
      (stays-by old new (record old.journal { marks = record old.journal.marks { trace = true } }) is refl refl refl refl goes.opened (commit-same old new before goes.running))
      (a.same (inl refl))
      (marks-trace old new (some-same old new before goes.running) (ap (λ (j : JournalView). j.marks.trace) is) goes.log_full)

  collect-running : (r : Result Collect CollectRefusal) → Collected slots old new held held_new r → old.failed ≡ None → Came slots old new held held_new (entered_by_collect_step r) (marked_by_collect_step r)
  collect-running (Ok (collect.Did popped left)) a before =
      let does = a.does in
      let m = does.event tt in
      event (collect.Did popped left) a before m Hidden (hidden-told m.event m.logged left (left_of slots new.journal.round) popped m.answer)
  collect-running (Ok (collect.Deleted id left)) a before =
      let does = a.does in
      let m = does.event tt in
      event (collect.Deleted id left) a before m (Delete id) (deleted-told m.event m.logged left (left_of slots new.journal.round) id m.answer)
  collect-running (Ok collect.Idle) a before = let does = a.does in still collect.Idle a before (does.unchanged refl) (a.same (inr (inl refl)))
  collect-running (Ok collect.Memory) a before = let does = a.does in still collect.Memory a before (does.memory refl) (a.same (inr (inr refl)))
  collect-running (Ok collect.TraceFull) a before = full a before
  collect-running (Err (refusal.Stopped n)) a before = absurd (let s = subst IsSome before (a.only_stopped n refl) in cc)
  collect-running (Err refusal.LogFull) a before = came-full slots old new held held_new a.before (a.log_marked refl).0 (a.log_marked refl).1

  collect-stopped : (r : Result Collect CollectRefusal) → Collected slots old new held held_new r → (f : FailedCall) → IsErrOf r (refusal.Stopped f.faults) → new ≡ old → held_new ≡ held → old.failed ≡ Some f
      → Came slots old new held held_new (entered_by_collect_step r) (marked_by_collect_step r)
  collect-stopped (Ok step) a f is same held_same failed = absurd (cc)
  collect-stopped (Err (refusal.Stopped n)) a f is same held_same failed = came-stopped slots old new held held_new a.before same held_same f failed
  collect-stopped (Err refusal.LogFull) a f is same held_same failed = absurd (cc)

  pub collect-stepped : (r : Result Collect CollectRefusal) → Collected slots old new held held_new r → Came slots old new held held_new (entered_by_collect_step r) (marked_by_collect_step r)
  collect-stepped r a = by old.failed refl a.stopped
    where
      by : (o : Option FailedCall) → old.failed ≡ o → IfSome o (λ f. (IsErrOf r (refusal.Stopped f.faults)) × (new ≡ old) × (held_new ≡ held)) → Came slots old new held held_new (entered_by_collect_step r) (marked_by_collect_step r)
      by None e stopped = collect-running r a e
      by (Some f) e stopped = collect-stopped r a f stopped.0 stopped.1 stopped.2 e
