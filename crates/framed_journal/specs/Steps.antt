-- The collector's looks with the event after them, and all steps of an abort.
use Rattle.std.specs.Prelude.{◌≡◌, ◌↔◌, ℕ, suc, ◌<◌, ◌++◌, [], true, false, Option, Some, option_map, replicate}
use Rattle.plain_model.specs.declared.calls.Call.TheVariants.{Abort}
use Rattle.plain_model.specs.declared.calls.Reply.TheVariants.{Done}
use Rattle.plain_model.specs.declared.calls.Entry.TheVariants.{Call, Undo}
use Rattle.plain_model.specs.History.{History, with_entry, end_of, left_to_undo}
use Rattle.log_record.specs.declared.cell_record.CellRecord.{CellRecord}
use Rattle.log_record.specs.declared.cell_record.CellRecord.TheVariants.{AbortEnd}
use Rattle.core_store.specs.declared.act.Act.TheVariants.{Other}
use Rattle.core_store.specs.declared.collect.Collect.{Collect}
use Rattle.core_store.specs.declared.collect.Collect.TheVariants as collect
use Rattle.core_store.specs.Events.{after_event}
use Rattle.core_store.specs.JournalView.{JournalView, cells_of, core_of, last_left, with_note}
use Rattle.core_store.specs.Limited.{is_past_limit}
use Rattle.core_store.specs.Logged.{logged_by_undo}
use Rattle.core_store.specs.Replaced.{next_to_restore}
use Rattle.core_store.specs.RoundView.{Closed, asked, is_event, left_of, touched_by_record}
use Rattle.core_store.specs.Steppings.{IsEvent, MakesEvent, OnlyLooks, left_told, pops}
use Rattle.logged_journal.specs.View.{LoggedView}
use Rattle.logged_journal.specs.Calls.{IsPastLogToCollect, DoesCollect}
use Rattle.plain_model.specs.Outcomes.{IsReachableInSomeOutcome}

-- ---- the collector

-- the collector looked on as far as this journal, and there made the event that came next
pub record MakesNextEvent (slots : ℕ) (old new : JournalView) (result : Collect) : Type 0 where
  pub looked : JournalView
  pub looks : OnlyLooks slots old looked
  pub event : MakesEvent slots looked new result

-- the collector looked on as far as this journal, and there told that the history is full
pub record MarksFull (slots : ℕ) (old new : JournalView) : Type 0 where
  pub looked : JournalView
  pub looks : OnlyLooks slots old looked
  pub marked : new ≡ record looked { marks = record looked.marks { trace = true } }

-- a step of the collector, which looks at slots until there is something to do
pub record CollectsOnFrames (slots : ℕ) (old new : JournalView) (result : Collect) : Type 0 where
  pub full : (result ≡ collect.TraceFull) ↔ (is_past_limit old 1 ≡ true)
  pub marked : result ≡ collect.TraceFull → MarksFull slots old new
  pub idle : (result ≡ collect.Idle) ↔ (is_past_limit old 1 ≡ false) × (old.queue ≡ []) × (old.round ≡ Closed)
  pub unchanged : result ≡ collect.Idle → new ≡ old
  pub memory : result ≡ collect.Memory → OnlyLooks slots old new
  pub event : IsEvent result → MakesNextEvent slots old new result
  pub safe : (id left : ℕ) → result ≡ collect.Deleted id left → IsReachableInSomeOutcome (end_of old.history).state id → ⊥
  pub lower : (left : ℕ) → left_told result ≡ Some left → (left ≡ left_of slots new.round) × (pops result ≡ false → left < last_left old.notes)
  pub opening : (new.opening ≡ old.opening) × (new.limits ≡ old.limits)

-- The collector looked on as far as this journal, and there made the step that a journal makes without a log. An event's record
-- doesn't go past the log's limit.
pub record CollectsNext {D : Type 0} (slots : ℕ) (old new : LoggedView D) (result : Collect) : Type 0 where
  pub looked : JournalView
  pub looks : OnlyLooks slots old.journal looked
  pub within : IsPastLogToCollect (record old { journal = looked }) → ⊥
  pub step : DoesCollect slots looked new.journal result

-- the collector looked on as far as this journal, and there told that the log is full: an event comes next, and its record would
-- go past the log's limit
pub record FillsLog {D : Type 0} (slots : ℕ) (old new : LoggedView D) : Type 0 where
  pub looked : JournalView
  pub looks : OnlyLooks slots old.journal looked
  pub event : is_event (cells_of looked) (asked looked.round) ≡ true
  pub past : IsPastLogToCollect (record old { journal = looked })
  pub marked : new ≡ record old { journal = looked; log_full = true }

-- ---- an abort

-- what the undo of the client's last write that isn't undone logs
abbrev pub logged_next : JournalView → ℕ → Option CellRecord
logged_next j client = option_map (logged_by_undo (cells_of j) client) (next_to_restore (end_of j.history) client)

-- what a step of an abort leaves alone
pub record HasSameStart (old new : JournalView) : Type 0 where
  pub opening : new.opening ≡ old.opening
  pub limits : new.limits ≡ old.limits
  pub marks : new.marks ≡ old.marks

-- one write of the client was undone
pub record UndoesOne (slots client : ℕ) (old new : JournalView) : Type 0 where
  pub some : 0 < left_to_undo (end_of old.history) client
  pub entry : new.history ≡ with_entry old.history (Undo client)
  pub noted : new.notes ≡ with_note old.notes (Undo client) (logged_next old client) (left_of slots new.round) Other
  pub collector : core_of new ≡ after_event slots (core_of old) (Undo client) (logged_next old client)
  pub cursor : new.round ≡ touched_by_record old.round (logged_next old client)
  pub start : HasSameStart old new

-- no write of the client was left to undo, and its transaction ended
pub record EndsAbort (slots client : ℕ) (old new : JournalView) : Type 0 where
  pub none : left_to_undo (end_of old.history) client ≡ 0
  pub entry : new.history ≡ with_entry old.history (Call client Abort Done)
  pub noted : new.notes ≡ with_note old.notes (Call client Abort Done) (Some (AbortEnd client)) (left_of slots new.round) Other
  pub collector : core_of new ≡ after_event slots (core_of old) (Call client Abort Done) (Some (AbortEnd client))
  pub cursor : new.round ≡ old.round
  pub start : HasSameStart old new

-- so many writes of the client were undone, one after another
pub data Undoes (slots client : ℕ) (old : JournalView) : ℕ → JournalView → Type 0 where
  undone_none : Undoes slots client old 0 old
  undone_more : (count : ℕ) (before after : JournalView) → Undoes slots client old count before → UndoesOne slots client before after → Undoes slots client old (suc count) after

-- each write of the client that wasn't undone was undone, and then its transaction ended
pub record UndoesAll (slots client : ℕ) (old new : JournalView) : Type 0 where
  pub undone : JournalView
  pub undoes : Undoes slots client old (left_to_undo (end_of old.history) client) undone
  pub ends : EndsAbort slots client undone new

-- the history with so many undos of the client more
abbrev pub with_undos : History → ℕ → ℕ → History
with_undos h client count = record h { entries = h.entries ++ replicate count (Undo client) }
