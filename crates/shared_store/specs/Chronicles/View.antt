-- What a chronicle shows of a journal with its log.
use Rattle.std.specs.Prelude.{ℕ, Bool, List, [], ◌∷◌, ◌++◌, length, map, Option, option_map, None}
use Rattle.std.specs.Option.{option_map_or}
use Rattle.plain_model.specs.declared.calls.Call.TheVariants.{Commit}
use Rattle.plain_model.specs.declared.calls.Reply.TheVariants.{DiskFault}
use Rattle.plain_model.specs.declared.calls.Entry.TheVariants.{Call}
use Rattle.plain_model.specs.History.{History}
use Rattle.cell_model.specs.Cells.{Cell}
use Rattle.cell_model.specs.Graph.{graph_of}
use Rattle.gate_log.specs.State.{used}
use Rattle.core_store.specs.declared.act.Act.TheVariants.{Other}
use Rattle.core_store.specs.declared.frame.Frame.{Frame}
use Rattle.core_store.specs.declared.limits.Limits.{Limits}
use Rattle.core_store.specs.declared.note.Note.{Note}
use Rattle.core_store.specs.JournalView.{cells_after_notes, last_left}
use Rattle.logged_journal.specs.Checkpoints.{wanted_below}
use Rattle.logged_journal.specs.View.{LoggedView, failed_commit}
use Rattle.latch_table.specs.Account.{Account, Marks, Sizes}
use Rattle.shared_store.specs.Chronicles.Pages.{frame_in}
use Rattle.shared_store.specs.Chronicles.Clients.{speaker_of, has_by}

-- what no call changes
pub record Origin : Type 0 where
  pub limits : Limits
  -- the cells of the opening, each at the index of its id
  pub opening : List Cell
  pub ids : ℕ
  -- the disk's count of faults at the opening
  pub faults : ℕ

abbrev pub origin_of : {D : Type 0} → LoggedView D → Origin
origin_of v = record { limits = v.journal.limits; opening = v.journal.opening; ids = v.journal.history.ids; faults = v.opened }

-- the note of a commit that the disk failed, after these notes: it logs nothing, and leaves of the round what they tell
abbrev pub failed_note : List Note → ℕ → Note
failed_note notes client = record { entry = Call client Commit DiskFault; logged = None; left = last_left notes; act = Other }

-- the notes, the last of which is of the commit that the disk failed, where it failed one
abbrev pub notes_of : {D : Type 0} → LoggedView D → List Note
notes_of v = v.journal.notes ++ option_map_or (λ client. failed_note v.journal.notes client ∷ []) (failed_commit v) []

-- the disk's count of faults after the call that it failed, if it failed one
abbrev pub count_failed : {D : Type 0} → LoggedView D → Option ℕ
count_failed v = option_map (λ f. f.faults) v.failed

-- which answers were given: that the disk failed, with its count of faults then, that the history is full, that the log is full
abbrev pub marks_of : {D : Type 0} → LoggedView D → Marks
marks_of v = (count_failed v, v.journal.marks.trace, v.log_full)

-- how many bytes of the log are in use, and how many pages want an image in it
abbrev pub sizes_of : {D : Type 0} → LoggedView D → Sizes
sizes_of v = (used v.log, length (wanted_below v.marks (length v.marks)))

-- ---- what the origin and the notes determine

-- the history of these notes
abbrev pub history_after : ℕ → Origin → List Note → History
history_after slots x notes = record { ids = x.ids; slots = slots; opening = graph_of x.opening; entries = map (λ n. n.entry) notes }

-- the frame of the page after these notes
abbrev pub frame_after : (slots : ℕ) → Origin → List Note → ℕ → Frame slots
frame_after slots x notes page = frame_in slots (cells_after_notes slots x.opening notes) page

-- the client has a transaction after these notes
abbrev pub has_transaction : List Note → ℕ → Bool
has_transaction notes client = has_by (map (λ n. n.entry) notes) client

-- ---- as a table of latches is told of it

-- the chronicle of a journal with its log on a disk of this type, whose objects have so many slots
abbrev pub account : (D : Type 0) → (slots : ℕ) → Account Note Origin (Frame slots) (LoggedView D)
account D slots =
    record {
      entries = notes_of;
      fixed = origin_of;
      marks = marks_of;
      sizes = sizes_of;
      frame = frame_after slots;
      speaks = λ n. speaker_of n.entry;
      truth = has_transaction;
    }
