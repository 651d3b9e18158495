-- What the calls of a journal make of what its chronicle shows.
use Rattle.std.specs.Prelude.{◌≡◌, ℕ, Bool, true, false, if◌then◌else◌, [], ◌∷◌, ◌++◌, Option, Some, None, Result, Ok, Err, unwrap_or}
use Rattle.plain_model.specs.declared.calls.Call.{Call as TransactionCall}
use Rattle.plain_model.specs.declared.calls.Call.TheVariants.{Abort}
use Rattle.plain_model.specs.declared.calls.Reply.{Reply}
use Rattle.plain_model.specs.declared.calls.Reply.TheVariants as reply
use Rattle.plain_model.specs.declared.calls.Entry.{Entry}
use Rattle.plain_model.specs.declared.calls.Entry.TheVariants.{Call, Undo, Delete, Hidden, TurnBusy}
use Rattle.core_store.specs.declared.abort_step.AbortStep.{AbortStep}
use Rattle.core_store.specs.declared.abort_step.AbortStep.TheVariants.{Undone, Ended}
use Rattle.core_store.specs.declared.collect.Collect.{Collect}
use Rattle.core_store.specs.declared.collect.Collect.TheVariants as collect
use Rattle.core_store.specs.declared.note.Note.{Note}
use Rattle.logged_journal.specs.declared.collect.CollectRefusal.{CollectRefusal}
use Rattle.logged_journal.specs.declared.collect.CollectRefusal.TheVariants as collected
use Rattle.logged_journal.specs.declared.failed.Stopped.{Stopped}
use Rattle.logged_journal.specs.declared.upkeep.Upkeep.{Upkeep}
use Rattle.logged_journal.specs.declared.upkeep.Upkeep.TheVariants as upkeep
use Rattle.logged_journal.specs.View.{LoggedView}
use Rattle.latch_table.specs.Account.{Marks}
use Rattle.latch_table.specs.Views.{joined_marks}
use Rattle.shared_store.specs.Chronicles.View.{origin_of, notes_of, count_failed, marks_of, frame_after}

-- ---- what an answer tells

-- which marks it sets: that the disk failed, that the history is full, that the log is full
abbrev pub Flags : Type 0
Flags = Bool × Bool × Bool

abbrev pub no_mark : Flags
no_mark = (false, false, false)

abbrev pub disk_mark : Flags
disk_mark = (true, false, false)

abbrev pub trace_mark : Flags
trace_mark = (false, true, false)

abbrev pub log_mark : Flags
log_mark = (false, false, true)

-- these marks, that of the disk with this count of faults
abbrev pub marks_with : Flags → ℕ → Marks
marks_with f n = (if f.0 then Some n else None, f.1, f.2)

-- the disk's count of faults after the call that it failed, or 0
abbrev pub count_kept : {D : Type 0} → LoggedView D → ℕ
count_kept v = unwrap_or (count_failed v) 0

-- the entry that a call with this reply entered, if it entered one
abbrev pub entered_by_call : ℕ → TransactionCall → Reply → Option Entry
entered_by_call client call (reply.Again word seat) = None
entered_by_call client call (reply.Stopped faults) = None
entered_by_call client call reply.TraceFull = None
entered_by_call client call reply.Memory = None
entered_by_call client call reply.LogFull = None
entered_by_call client call r = Some (Call client call r)

-- the mark that it sets
abbrev pub marked_by_call : Reply → Flags
marked_by_call (reply.Stopped faults) = disk_mark
marked_by_call reply.DiskFault = disk_mark
marked_by_call reply.TraceFull = trace_mark
marked_by_call reply.LogFull = log_mark
marked_by_call _ = no_mark

abbrev pub entered_by_abort_step : ℕ → Result AbortStep Stopped → Option Entry
entered_by_abort_step client (Ok Undone) = Some (Undo client)
entered_by_abort_step client (Ok Ended) = Some (Call client Abort reply.Done)
entered_by_abort_step client (Err stopped) = None

abbrev pub marked_by_abort_step : Result AbortStep Stopped → Flags
marked_by_abort_step (Ok step) = no_mark
marked_by_abort_step (Err stopped) = disk_mark

abbrev pub entered_by_collect_step : Result Collect CollectRefusal → Option Entry
entered_by_collect_step (Ok (collect.Did popped left)) = Some Hidden
entered_by_collect_step (Ok (collect.Deleted id left)) = Some (Delete id)
entered_by_collect_step _ = None

abbrev pub marked_by_collect_step : Result Collect CollectRefusal → Flags
marked_by_collect_step (Ok collect.TraceFull) = trace_mark
marked_by_collect_step (Ok _) = no_mark
marked_by_collect_step (Err (collected.Stopped faults)) = disk_mark
marked_by_collect_step (Err collected.LogFull) = log_mark

abbrev pub entered_by_upkeep : Upkeep → Option Entry
entered_by_upkeep upkeep.Done = Some Hidden
entered_by_upkeep (upkeep.Busy client) = Some (TurnBusy client)
entered_by_upkeep _ = None

abbrev pub marked_by_upkeep : Upkeep → Flags
marked_by_upkeep (upkeep.Stopped faults) = disk_mark
marked_by_upkeep upkeep.DiskFault = disk_mark
marked_by_upkeep upkeep.TraceFull = trace_mark
marked_by_upkeep upkeep.LogFull = log_mark
marked_by_upkeep _ = no_mark

-- the same where upkeep may be refused before it is tried
abbrev pub entered_by_refusal : Option Upkeep → Option Entry
entered_by_refusal None = None
entered_by_refusal (Some u) = entered_by_upkeep u

abbrev pub marked_by_refusal : Option Upkeep → Flags
marked_by_refusal None = no_mark
marked_by_refusal (Some u) = marked_by_upkeep u

-- ---- what a call does to the chronicle

-- one note more, of this entry; no page changes its frame but those of the test
pub record Enters {D : Type 0} (slots : ℕ) (may_change : ℕ → Bool) (old new : LoggedView D) (entry : Entry) : Type 0 where
  pub note : Note
  pub of_entry : note.entry ≡ entry
  pub notes : notes_of new ≡ notes_of old ++ note ∷ []
  pub elsewhere : (page : ℕ) → may_change page ≡ false → frame_after slots (origin_of old) (notes_of new) page ≡ frame_after slots (origin_of old) (notes_of old) page

-- the notes with that of the entry, if one was entered
abbrev pub EntersIf : {D : Type 0} → (slots : ℕ) → (may_change : ℕ → Bool) → LoggedView D → LoggedView D → Option Entry → Type 0
EntersIf slots may_change old new (Some entry) = Enters slots may_change old new entry
EntersIf slots may_change old new None = notes_of new ≡ notes_of old

-- A call goes on with the chronicle: its origin stays, the notes are those before and that of the entry that it entered, if it
-- entered one, and the marks are those before and the one that it set, that of the disk with the count that is kept. Only pages
-- of the test change their frames.
pub record GoesOnWith {D : Type 0} (slots : ℕ) (may_change : ℕ → Bool) (old new : LoggedView D) (entered : Option Entry) (marked : Flags) : Type 0 where
  pub origin : origin_of new ≡ origin_of old
  pub notes : EntersIf slots may_change old new entered
  pub marks : marks_of new ≡ joined_marks (marks_of old) (marks_with marked (count_kept new))

-- no page
abbrev pub no_page : ℕ → Bool
no_page page = false
