-- The notes of a journal as they are kept: those of the collector in one row, all others in another, and a row that tells the
-- order.
use Rattle.std.specs.Prelude.{◌≡◌, ℕ, ◌≤◌, List, [], ◌∷◌, length, Option, Some, None, vec_capacity}
use Rattle.std.specs.Global.{Vec}
use Rattle.plain_model.specs.declared.calls.Call.{Call}
use Rattle.plain_model.specs.declared.calls.Call.TheVariants as call
use Rattle.plain_model.specs.declared.calls.Reply.{Reply}
use Rattle.plain_model.specs.declared.calls.Reply.TheVariants as reply
use Rattle.plain_model.specs.declared.calls.Entry.{Entry}
use Rattle.plain_model.specs.declared.calls.Entry.TheVariants as entry
use Rattle.log_record.specs.declared.cell_record.CellRecord.{CellRecord}
use Rattle.log_record.specs.declared.cell_record.CellRecord.TheVariants as logs
use Rattle.core_store.specs.declared.act.Act.{Act}
use Rattle.core_store.specs.declared.act.Act.TheVariants as act
use Rattle.core_store.specs.declared.event.Event.{Event}
use Rattle.core_store.specs.declared.event.Event.TheVariants as event
use Rattle.core_store.specs.declared.note.Note.{Note}
use Rattle.core_store.specs.declared.notes.EventNote.{EventNote}
use Rattle.core_store.specs.declared.notes.PlainNote.{PlainNote}
use Rattle.core_store.specs.declared.notes.Row.{Row}
use Rattle.core_store.specs.declared.notes.Row.TheVariants as row
use Rattle.core_store.specs.declared.plain_event.Cause.{Cause}
use Rattle.core_store.specs.declared.plain_event.Cause.TheVariants as cause
use Rattle.core_store.specs.declared.plain_event.PlainEvent.{PlainEvent}
use Rattle.core_store.specs.declared.plain_event.PlainEvent.TheVariants as plain
use Rattle.core_store.specs.Collects.{entry_of}

-- the notes in order, and how many of them there is room for
pub record NotesView : Type 0 where
  pub list : List Note
  pub room : ℕ

-- ---- one note

-- what a note tells of the collector that is of this event
abbrev pub act_of : Event → Act
act_of (event.Skip id) = act.Skip id
act_of (event.Start id) = act.Start id
act_of (event.Scan id) = act.Scan id
act_of event.Judge = act.Judge
act_of event.End = act.End
act_of _ = act.Change

-- what the event logs
abbrev pub logged_of : Event → Option CellRecord
logged_of (event.Weaken slot id target) = Some (logs.Weaken id slot target)
logged_of (event.Strengthen slot id target) = Some (logs.Strengthen id slot target)
logged_of (event.Flip id) = Some (logs.Flip id)
logged_of (event.CutDead slot was_strong id target) = Some (logs.CutDead id slot target was_strong)
logged_of (event.Free id) = Some (logs.Free id)
logged_of _ = None

-- the call as a cause of what it logged: reads log nothing, and an abort logs at its end
abbrev pub cause_of : Call → Cause
cause_of call.Begin = cause.Begin
cause_of (call.Make into) = cause.Make into
cause_of (call.Store r slot source) = cause.Store r slot source
cause_of (call.SetPay r value) = cause.SetPay r
cause_of call.Commit = cause.Commit
cause_of _ = cause.AbortEnd

-- the history's entry of what the client did for this cause, and logged so
abbrev pub entry_of_cause : ℕ → Cause → CellRecord → Entry
entry_of_cause pass cause.Begin logged = entry.Call pass call.Begin reply.Done
entry_of_cause pass (cause.Make into) (logs.Make maker id) = entry.Call pass (call.Make into) (reply.Id id)
entry_of_cause pass (cause.Store r slot source) logged = entry.Call pass (call.Store r slot source) reply.Done
entry_of_cause pass (cause.SetPay r) (logs.Pay payer id old_value new_value) = entry.Call pass (call.SetPay r new_value) reply.Done
entry_of_cause pass cause.Commit logged = entry.Call pass call.Commit reply.Done
entry_of_cause pass cause.AbortEnd logged = entry.Call pass call.Abort reply.Done
entry_of_cause pass _ logged = entry.Undo pass

-- the history's entry of what isn't the collector's
abbrev pub entry_of_plain : PlainEvent → Entry
entry_of_plain (plain.Call pass asked answer) = entry.Call pass asked answer
entry_of_plain (plain.Logged pass why logged) = entry_of_cause pass why logged
entry_of_plain plain.Hidden = entry.Hidden
entry_of_plain (plain.TurnBusy pass) = entry.TurnBusy pass

-- and what it logged
abbrev pub logged_of_plain : PlainEvent → Option CellRecord
logged_of_plain (plain.Logged pass why logged) = Some logged
logged_of_plain _ = None

-- the client logs this where it makes the call and is answered so
abbrev pub IsRecordOf : ℕ → Call → Reply → CellRecord → Type 0
IsRecordOf pass call.Begin answer logged = answer ≡ reply.Done
IsRecordOf pass (call.Make into) answer logged = (id : ℕ) × (answer ≡ reply.Id id) × (logged ≡ logs.Make pass id)
IsRecordOf pass (call.Store r slot source) answer logged = answer ≡ reply.Done
IsRecordOf pass (call.SetPay r value) answer logged = (answer ≡ reply.Done) × ((id : ℕ) × (old : ℕ) × (logged ≡ logs.Pay pass id old value))
IsRecordOf pass call.Commit answer logged = answer ≡ reply.Done
IsRecordOf _ _ _ _ = ⊥

abbrev pub note_of_event : Event → ℕ → Note
note_of_event e left = record { entry = entry_of (logged_of e); logged = logged_of e; left = left; act = act_of e }

abbrev pub note_of_plain : PlainNote → Note
note_of_plain n = record { entry = entry_of_plain n.event; logged = logged_of_plain n.event; left = n.left; act = act.Other }

-- ---- all of them

-- the notes of both rows in this order
abbrev pub in_order : List Row → List PlainNote → List EventNote → List Note
in_order (row.Plain ∷ rows) (n ∷ plain) events = note_of_plain n ∷ in_order rows plain events
in_order (row.Event ∷ rows) plain (e ∷ events) = note_of_event e.event e.left ∷ in_order rows plain events
in_order _ _ _ = []

-- the order tells of just the notes that there are
abbrev pub AreFilled : List Row → List PlainNote → List EventNote → Type 0
AreFilled [] plain events = (plain ≡ []) × (events ≡ [])
AreFilled (row.Plain ∷ rows) (n ∷ plain) events = AreFilled rows plain events
AreFilled (row.Plain ∷ rows) [] events = ⊥
AreFilled (row.Event ∷ rows) plain (e ∷ events) = AreFilled rows plain events
AreFilled (row.Event ∷ rows) plain [] = ⊥

-- they are told so, and each row has room for so many in all, whichever row they go to
pub record AreNotesInside (order : Vec Row) (plain : Vec PlainNote) (events : Vec EventNote) (room : ℕ) : Type 0 where
  pub filled : AreFilled order.items plain.items events.items
  pub within : length order.items ≤ room
  pub in_order_row : room ≤ vec_capacity order
  pub in_plain_row : room ≤ vec_capacity plain
  pub in_event_row : room ≤ vec_capacity events
