-- What the last pass knows after a run of clients.
use Rattle.std.specs.Prelude.{◌≡◌, ℕ, zero, suc, ◌≤◌, if◌then◌else◌, Bool, true, false, List, [], ◌∷◌, ◌++◌, slice_index_or, Option, None, IfSome, IsSome}
use Rattle.plain_model.specs.History.{end_of, is_stopped}
use Rattle.disk_model.specs.declared.area.Area.{Area}
use Rattle.disk_model.specs.Causes.{Rose}
use Rattle.disk_model.specs.Told.{EachImage}
use Rattle.cell_model.specs.Graph.{graph_of}
use Rattle.store_model.specs.Sound.{IsSound}
use Rattle.cell_page.specs.declared.cell.Cell.{Cell}
use Rattle.cell_page.specs.Format.{page_of_id, place_of}
use Rattle.core_store.specs.declared.frame.Frame.{Frame}
use Rattle.core_store.specs.JournalView.{core_of, opening_of}
use Rattle.core_store.specs.Leads.{AreLed}
use Rattle.core_store.specs.Limited.{WasFull}
use Rattle.core_store.specs.Safe.{IsDurable}
use Rattle.logged_journal.specs.View.{LoggedView, history_of}
use Rattle.logged_journal.specs.Records.{MayBeLeft, durable_notes}
use Rattle.logged_journal.specs.Opens.{OpensAfter}
use Rattle.latch_table.specs.Rule.{LieBelow}
use Rattle.shared_store.specs.Passes.{Known}
use Rattle.journal_opening.specs.Openings.{ReadsAs}
use Rattle.script_lines.specs.declared.grammar.Line.{Line}
use Rattle.client_pass.specs.declared.ends.WorkEnd.{WorkEnd}
use Rattle.client_pass.specs.declared.ends.WorkEnd.TheVariants.{Finished}
use Rattle.client_pass.specs.declared.script.ClientScript.{ClientScript}
use Rattle.client_pass.specs.Runs.{IsCollected, RunsScripts}
use Rattle.script_lines.specs.Numbers.{object_slots}
use Rattle.brahma_shell.specs.ClientScripts.{AreOfLines}
use Rattle.brahma_shell.specs.declared.replay.Stop.{Stop}
use Rattle.brahma_shell.specs.declared.replay.Stop.TheVariants as stop
use Rattle.brahma_shell.specs.ClientLines.{ReadsAll}
use Rattle.brahma_shell.specs.Log.{WasLogFull}
use Rattle.brahma_shell.specs.Points.{entries_in}

-- ---- why a run stopped

-- the journal tells that the run stopped for this reason
abbrev pub TellsStop : {D : Type 0} → LoggedView D → Stop → Type 0
TellsStop v stop.Stopped = IsSome v.failed
TellsStop v stop.Full = (v.failed ≡ None) × (v.journal.marks.trace ≡ true)
TellsStop v stop.LogFull = (v.failed ≡ None) × (v.log_full ≡ true)
TellsStop v _ = ⊥

-- ---- looks at cells

-- the pass only looked at cells, and keeps that it did
pub record OnlyPeeks (old new : Known object_slots) : Type 0 where
  pub station : new.station ≡ old.station
  pub fixed : new.knowledge.fixed ≡ old.knowledge.fixed
  pub entries : new.knowledge.entries ≡ old.knowledge.entries
  pub more : List (ℕ × ℕ × Frame object_slots)
  pub peeks : new.knowledge.peeks ≡ old.knowledge.peeks ++ more

-- the pass keeps a look at the frame in which the cell of this id stands: so the cell was, live or not, when the history had no
-- entry that the pass doesn't keep
pub record HasSeen (v : Known object_slots) (id : ℕ) (live : Bool) : Type 0 where
  pub before : List (ℕ × ℕ × Frame object_slots)
  pub behind : List (ℕ × ℕ × Frame object_slots)
  pub seen : ℕ
  pub frame : Frame object_slots
  pub kept : v.knowledge.peeks ≡ before ++ (page_of_id id, seen, frame) ∷ behind
  pub latest : LieBelow seen v.knowledge.entries
  pub cell : Cell object_slots
  pub found : slice_index_or frame.page (place_of id) cell ≡ cell
  pub told : cell.live ≡ live

-- so of each of the first n ids, of which these were live
abbrev pub HasSeenLive : Known object_slots → ℕ → List ℕ → Type 0
HasSeenLive v zero live = live ≡ []
HasSeenLive v (suc n) live = (before : List ℕ) × (is : Bool) × (live ≡ before ++ (if is then suc n ∷ [] else [])) × HasSeen v (suc n) is × HasSeenLive v n before

-- ---- the run

-- The clients ran. Where these ids are found to be stored, all was done, the collector had nothing left to do, and after it the
-- pass saw the cells of all ids, of which just these were live
pub record HasRun (D : Type 0) (old new : Known object_slots) (scripts : List ClientScript) (ids : ℕ) (stored : Option (List ℕ)) : Type 0 where
  pub end : WorkEnd
  pub behind : Known object_slots
  pub runs : RunsScripts old behind scripts end
  pub only : OnlyPeeks behind new
  pub finished : IfSome stored (λ live. (end ≡ Finished) × IsCollected D object_slots behind × HasSeenLive new ids live)

-- the store of this journal was opened from what the disk read, and the whole source asks these scripts
pub record HasAsked {D : Type 0} (content : D → Area → Option (List ℕ)) (disk : D) (left later : Option (List ℕ)) (asked : List Line) (v : LoggedView D) (scripts : List ClientScript) : Type 0 where
  pub opened : ReadsAs content object_slots disk v.journal.opening
  pub read : ReadsAll v.journal.history.ids left later asked
  pub of_lines : AreOfLines asked scripts

-- ---- the journal after a run

-- what every journal keeps of its history, of its cells, of its marks and of its disk
pub record HoldsNow {D : Type 0} (may_leave : D → Area → List ℕ → Type 0) (faults : D → ℕ) (v : LoggedView D) : Type 0 where
  pub slots : v.journal.history.slots ≡ object_slots
  pub opening : graph_of v.journal.opening ≡ v.journal.history.opening
  pub running : is_stopped (end_of v.journal.history) ≡ false
  pub entries : entries_in v.journal.notes ≡ v.journal.history.entries
  pub sound : IsSound (core_of v.journal)
  pub led : AreLed object_slots (opening_of v.journal) v.journal.notes (core_of v.journal)
  pub full : v.journal.marks.trace ≡ true → WasFull v.journal
  pub log_full : v.log_full ≡ true → WasLogFull v
  pub lasting : IsDurable v.journal (durable_notes v)
  pub images : EachImage may_leave v.disk (MayBeLeft v)
  pub opens : EachImage may_leave v.disk (OpensAfter object_slots (history_of v))
  -- the disk's count of faults never falls, and it rose where the disk failed a call
  pub later : v.opened ≤ faults v.disk
  pub rose : IsSome v.failed → Rose v.opened (faults v.disk)
