-- What the calls of a journal with its log do.
use Rattle.std.specs.Prelude.{◌≡◌, ◌↔◌, ℕ, ◌<◌, List, [], ◌∷◌, ◌++◌, length, true, false, max, Option, Some, None, option_map}
use Rattle.disk_model.specs.declared.area.Area.{Area}
use Rattle.disk_model.specs.Causes.{Rose}
use Rattle.disk_model.specs.Told.{KeepsOthers}
use Rattle.gate_log.specs.State.{LogState, appended, forced, forced_area}
use Rattle.plain_model.specs.declared.calls.Call.{Call as TransactionCall}
use Rattle.plain_model.specs.declared.calls.Call.TheVariants as call
use Rattle.plain_model.specs.declared.calls.Reply.{Reply}
use Rattle.plain_model.specs.declared.calls.Reply.TheVariants as reply
use Rattle.plain_model.specs.declared.calls.Entry.TheVariants.{Call, Undo}
use Rattle.plain_model.specs.Machine.{step, refusal_of}
use Rattle.plain_model.specs.History.{with_entry, end_of, left_to_undo}
use Rattle.plain_model.specs.Outcomes.{IsReachableInSomeOutcome}
use Rattle.log_record.specs.declared.cell_record.CellRecord.TheVariants.{AbortEnd}
use Rattle.core_store.specs.declared.abort_step.AbortStep.{AbortStep}
use Rattle.core_store.specs.declared.abort_step.AbortStep.TheVariants.{Undone, Ended}
use Rattle.core_store.specs.declared.act.Act.TheVariants.{Other}
use Rattle.core_store.specs.declared.collect.Collect.{Collect}
use Rattle.core_store.specs.declared.collect.Collect.TheVariants as collect
use Rattle.core_store.specs.declared.note.Note.{Note}
use Rattle.core_store.specs.declared.three.HeldFrame.{HeldFrame}
use Rattle.core_store.specs.JournalView.{JournalView, cells_of, core_of, with_note, last_left}
use Rattle.core_store.specs.Events.{after_event}
use Rattle.core_store.specs.Frames.{Agree, IsSameElsewhere, pages_held}
use Rattle.core_store.specs.Limited.{is_past_limit}
use Rattle.core_store.specs.Logged.{logged_by, logged_by_undo}
use Rattle.core_store.specs.Owed.{entries_needed, bytes_needed}
use Rattle.core_store.specs.Replaced.{next_to_restore}
use Rattle.core_store.specs.RoundView.{Closed, left_of, touched_by_record}
use Rattle.core_store.specs.Steppings.{IsEntered, IsEvent, MakesEvent, left_told, pops, bytes_to_collect}
use Rattle.logged_journal.specs.View.{LoggedView, IsPast, bytes_counted}
use Rattle.logged_journal.specs.Records.{bytes_joined, AreMarkedAfter}

-- ---- calls

-- a reply that a journal gives without a log
abbrev pub IsOfJournal : Reply → Type 0
IsOfJournal (reply.Stopped faults) = ⊥
IsOfJournal reply.LogFull = ⊥
IsOfJournal reply.DiskFault = ⊥
IsOfJournal _ = Unit {0}

-- the call would be done if it were made now, want of memory and of room in the log aside
pub record IsGranted (j : JournalView) (pass : ℕ) (c : TransactionCall) : Type 0 where
  pub room : is_past_limit j (entries_needed c) ≡ false
  pub granted : refusal_of (end_of j.history).state pass c ≡ None

-- it is told that the log is full: the call would be done, and what it needs would go past the log's limit
pub record IsPastLog {D : Type 0} (v : LoggedView D) (pass : ℕ) (c : TransactionCall) : Type 0 where
  pub running : v.failed ≡ None
  pub granted : IsGranted v.journal pass c
  pub past : IsPast v (bytes_needed c)

-- the journal does the call and answers, as it does without a log
pub record DoesCall (slots : ℕ) (old new : JournalView) (pass : ℕ) (c : TransactionCall) (result : Reply) : Type 0 where
  pub full : (result ≡ reply.TraceFull) ↔ (is_past_limit old (entries_needed c) ≡ true)
  pub marked : result ≡ reply.TraceFull → new ≡ record old { marks = record old.marks { trace = true } }
  pub memory : result ≡ reply.Memory → new ≡ old
  pub entry : IsEntered result → new.history ≡ with_entry old.history (Call pass c result)
  pub machine : IsEntered result → result ≡ (step (end_of old.history).state pass c).0
  pub noted : IsEntered result → new.notes ≡ with_note old.notes (Call pass c result) (logged_by (end_of old.history).state (cells_of old) pass c) (left_of slots new.round) Other
  pub collector : IsEntered result → core_of new ≡ after_event slots (core_of old) (Call pass c result) (logged_by (end_of old.history).state (cells_of old) pass c)
  pub cursor : IsEntered result → new.round ≡ touched_by_record old.round (logged_by (end_of old.history).state (cells_of old) pass c)
  pub opening : (new.opening ≡ old.opening) × (new.limits ≡ old.limits)
  pub unmarked : IsEntered result → new.marks ≡ old.marks

-- the held frames go on with the journal, and no other page changes
pub record KeepsFrames {slots : ℕ} (old new : JournalView) (held held_new : List (HeldFrame slots)) : Type 0 where
  pub pages : pages_held held_new ≡ pages_held held
  pub agree : Agree (cells_of new) held_new
  pub elsewhere : IsSameElsewhere (cells_of old) (cells_of new) held

-- what the log's part of a call leaves alone where no commit was done
pub record KeepsDisk {D : Type 0} (old new : LoggedView D) : Type 0 where
  pub disk : new.disk ≡ old.disk
  pub durable : new.durable ≡ old.durable

-- the log with the records of the notes that joined after its tail
abbrev pub log_joined : {D : Type 0} → LoggedView D → LoggedView D → LogState
log_joined old new = appended old.log (bytes_joined old.journal new.journal)

-- The log goes on with the notes. The tail is the tail before and the records of the notes that joined, and the disk stays; or,
-- where a commit was done, that tail was forced as one batch, and the records of all notes are durable.
pub data LogGoesOn {D : Type 0} (old new : LoggedView D) : Type 0 where
  appends : KeepsDisk old new → new.log ≡ record (log_joined old new) { room = new.log.room } → LogGoesOn old new
  forces : new.durable ≡ length new.journal.notes → new.log ≡ record (forced (log_joined old new)) { room = new.log.room } → LogGoesOn old new

-- What a call makes of the disk's areas: only the log's own changes. Where a commit was done, that has one batch more: the tail, and
-- the records of the notes that joined.
pub record OnlyForces {D : Type 0} (content : D → Area → Option (List ℕ)) (may_leave : D → Area → List ℕ → Type 0) (old new : LoggedView D) (c : TransactionCall) (result : Reply) : Type 0 where
  pub others : KeepsOthers content may_leave old.disk new.disk old.log.area
  pub batch : c ≡ call.Commit → result ≡ reply.Done → content new.disk old.log.area ≡ option_map (forced_area old.log.durable (log_joined old new).tail) (content old.disk old.log.area)

-- The marks of pages go with the notes: where a note joined they are as its record makes them, and where none did they stay.
pub data GoWithNotes {D : Type 0} (old new : LoggedView D) : Type 0 where
  stayed : new.journal.notes ≡ old.journal.notes → new.marks ≡ old.marks → GoWithNotes old new
  joined : (n : Note) → new.journal.notes ≡ old.journal.notes ++ n ∷ [] → AreMarkedAfter old.journal.history.slots n.logged old.marks new.marks → GoWithNotes old new

-- what stays at each call that wasn't stopped by the disk or the log
pub record GoesOn {D : Type 0} (old new : LoggedView D) : Type 0 where
  pub running : new.failed ≡ None
  pub log_full : new.log_full ≡ old.log_full
  pub peak : new.peak ≡ max old.peak (bytes_counted new)
  pub opened : new.opened ≡ old.opened
  pub marks : GoWithNotes old new
  pub log : LogGoesOn old new

-- the disk failed a commit that is granted: the journal stays as it is, and is stopped with the disk's count of faults, which
-- rose
pub record FailsCommit {D : Type 0} (faults : D → ℕ) (old new : LoggedView D) (pass : ℕ) (c : TransactionCall) : Type 0 where
  pub commit : c ≡ call.Commit
  pub granted : IsGranted old.journal pass call.Commit
  pub journal : new.journal ≡ old.journal
  pub told : new.failed ≡ Some (record { commit = Some pass; faults = faults new.disk })
  pub rose : Rose (faults old.disk) (faults new.disk)
  pub durable : new.durable ≡ old.durable
  pub marks : (new.log_full ≡ old.log_full) × (new.peak ≡ old.peak) × (new.marks ≡ old.marks)
  pub opened : new.opened ≡ old.opened

-- ---- steps of an abort

-- the journal makes the step, as it does without a log
pub record DoesAbortStep (slots : ℕ) (old new : JournalView) (pass : ℕ) (result : AbortStep) : Type 0 where
  pub undone : result ≡ Undone → (0 < left_to_undo (end_of old.history) pass) × (new.history ≡ with_entry old.history (Undo pass))
  pub ended : result ≡ Ended → (left_to_undo (end_of old.history) pass ≡ 0) × (new.history ≡ with_entry old.history (Call pass call.Abort reply.Done))
  pub noted_undo : result ≡ Undone → new.notes ≡ with_note old.notes (Undo pass) (option_map (logged_by_undo (cells_of old) pass) (next_to_restore (end_of old.history) pass)) (left_of slots new.round) Other
  pub noted_end : result ≡ Ended → new.notes ≡ with_note old.notes (Call pass call.Abort reply.Done) (Some (AbortEnd pass)) (left_of slots new.round) Other
  pub collector_undo : result ≡ Undone → core_of new ≡ after_event slots (core_of old) (Undo pass) (option_map (logged_by_undo (cells_of old) pass) (next_to_restore (end_of old.history) pass))
  pub collector_end : result ≡ Ended → core_of new ≡ after_event slots (core_of old) (Call pass call.Abort reply.Done) (Some (AbortEnd pass))
  pub cursor_undo : result ≡ Undone → new.round ≡ touched_by_record old.round (option_map (logged_by_undo (cells_of old) pass) (next_to_restore (end_of old.history) pass))
  pub cursor_end : result ≡ Ended → new.round ≡ old.round
  pub opening : (new.opening ≡ old.opening) × (new.limits ≡ old.limits) × (new.marks ≡ old.marks)

-- ---- steps of the collector

-- it is told that the log is full: the collector would make an event, and its record would go past the log's limit
pub record IsPastLogToCollect {D : Type 0} (v : LoggedView D) : Type 0 where
  pub running : v.failed ≡ None
  pub room : is_past_limit v.journal 1 ≡ false
  pub some : (v.journal.queue ≡ []) × (v.journal.round ≡ Closed) → ⊥
  pub past : IsPast v (bytes_to_collect v.journal.round)

-- the journal makes the step, as it does without a log
pub record DoesCollect (slots : ℕ) (old new : JournalView) (result : Collect) : Type 0 where
  pub full : (result ≡ collect.TraceFull) ↔ (is_past_limit old 1 ≡ true)
  pub marked : result ≡ collect.TraceFull → new ≡ record old { marks = record old.marks { trace = true } }
  pub idle : (result ≡ collect.Idle) ↔ (is_past_limit old 1 ≡ false) × (old.queue ≡ []) × (old.round ≡ Closed)
  pub unchanged : result ≡ collect.Idle → new ≡ old
  pub memory : result ≡ collect.Memory → new ≡ old
  pub event : IsEvent result → MakesEvent slots old new result
  pub safe : (id left : ℕ) → result ≡ collect.Deleted id left → IsReachableInSomeOutcome (end_of old.history).state id → ⊥
  pub lower : (left : ℕ) → left_told result ≡ Some left → (left ≡ left_of slots new.round) × (pops result ≡ false → left < last_left old.notes)
  pub opening : (new.opening ≡ old.opening) × (new.limits ≡ old.limits)
