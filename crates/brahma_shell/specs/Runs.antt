-- Runs of the program: what happens to a store from one opening to the next, and over several openings.
use Rattle.std.specs.Prelude.{◌≡◌, ◌⊎◌, ℕ, List, ◌∷◌, ◌++◌, map, fold, Option}
use Rattle.std.specs.Option.{option_map_or}
use Rattle.plain_model.specs.declared.calls.Call.TheVariants.{Commit}
use Rattle.plain_model.specs.declared.calls.Reply.TheVariants.{DiskFault}
use Rattle.plain_model.specs.declared.calls.Entry.{Entry}
use Rattle.plain_model.specs.declared.calls.Entry.TheVariants.{Call, Crash}
use Rattle.plain_model.specs.History.{History, with_entry}
use Rattle.cell_model.specs.Cells.{Cell}
use Rattle.cell_model.specs.Graph.{graph_of}
use Rattle.core_store.specs.declared.note.Note.{Note}
use Rattle.core_store.specs.JournalView.{JournalView}
use Rattle.core_store.specs.Opening.{opened_history}
use Rattle.logged_journal.specs.View.{LoggedView, failed_commit}
use Rattle.brahma_shell.specs.Points.{Point, after_note, start_with, start_point}
use Rattle.script_lines.specs.Numbers.{object_slots}

-- an event of a run: something that a journal notes; or power was lost, and the store was opened again, with so many ids and to
-- these cells
pub data Event : Type 0 where
  Noted : Note → Event
  Reopened : ℕ → List Cell → Event

-- its entry
abbrev pub entry_of : Event → Entry
entry_of (Noted n) = n.entry
entry_of (Reopened ids cells) = Crash (graph_of cells)

-- the events of notes
abbrev pub noted : List Note → List Event
noted notes = map Noted notes

-- the point after an event: after a loss of power all begins anew, with these cells
abbrev pub after_event : Point → Event → Point
after_event p (Noted n) = after_note p n
after_event p (Reopened ids cells) = start_with (opened_history p.slots ids cells) cells

-- the point after events, one after another
abbrev pub after_events : Point → List Event → Point
after_events p events = fold after_event p events

-- how many ids the store has there
abbrev pub ids_at : Point → ℕ
ids_at p = p.moment.state.ids

-- ---- stretches and whole runs

-- a stretch of a run: it begins at this point, where the next line of the script has this number, and has these events
pub record Stretch : Type 0 where
  pub start : Point
  pub number : ℕ
  pub events : List Event

-- the point at its end
abbrev pub end_point : Stretch → Point
end_point s = after_events s.start s.events

-- a run: what the store opened to at first, with so many ids; its events since; and the client whose commit the disk failed at
-- the end, if it failed one
pub record Run : Type 0 where
  pub opening : List Cell
  pub ids : ℕ
  pub events : List Event
  pub failed : Option ℕ

-- its history
abbrev pub run_history : Run → History
run_history r =
    let h : History = record (opened_history object_slots r.ids r.opening) { entries = map entry_of r.events } in
    option_map_or (λ client. with_entry h (Call client Commit DiskFault)) r.failed h

-- the whole run
abbrev pub whole : Run → Stretch
whole r = record { start = start_with (opened_history object_slots r.ids r.opening) r.opening; number = 1; events = r.events }

-- what a journal has noted since its opening, after which the next line of the script has this number
abbrev pub since_opening : ℕ → JournalView → Stretch
since_opening number j = record { start = start_point j; number = number; events = noted j.notes }

-- ---- the journal of the last opening

-- the journal has noted what happened since the last opening, which is its own
abbrev pub IsSinceOpening : Run → JournalView → Type 0
IsSinceOpening r j =
    ((r.opening ≡ j.opening) × (r.ids ≡ j.history.ids) × (r.events ≡ noted j.notes))
    ⊎ ((before : List Event) × (r.events ≡ before ++ Reopened j.history.ids j.opening ∷ noted j.notes))

-- the journal stands at the end of the run
pub record IsLastOf {D : Type 0} (r : Run) (v : LoggedView D) : Type 0 where
  pub events : IsSinceOpening r v.journal
  pub failed : r.failed ≡ failed_commit v
