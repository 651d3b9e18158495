-- What comes of a store at a loss of power.
use Rattle.std.specs.Prelude.{◌≡◌, ◌≤◌, ℕ, List, [], Option}
use Rattle.plain_model.specs.declared.calls.Entry.TheVariants.{Crash}
use Rattle.plain_model.specs.History.{end_of, IsCrashConsistent}
use Rattle.plain_model.specs.Text.{line_of}
use Rattle.disk_model.specs.declared.area.Area.{Area}
use Rattle.disk_model.specs.Causes.{Rose}
use Rattle.disk_model.specs.Told.{EachImage}
use Rattle.cell_model.specs.Graph.{graph_of}
use Rattle.store_opening.specs.declared.open_refusal.OpenRefusal.{OpenRefusal}
use Rattle.store_opening.specs.declared.open_refusal.OpenRefusal.TheVariants.{Disk}
use Rattle.logged_journal.specs.View.{LoggedView, history_of}
use Rattle.logged_journal.specs.Opens.{OpensAfter}
use Rattle.script_lines.specs.Output.{AppendsFront, EndsWith, open_refusal_line}
use Rattle.brahma_shell.specs.declared.ended.Ended.{Ended}
use Rattle.brahma_shell.specs.declared.ended.Ended.TheVariants.{Shut, Kept}
use Rattle.brahma_shell.specs.Top.{Tell, IsJustOpened, IsOfReplay, status_of_refusal}
use Rattle.script_lines.specs.Numbers.{object_slots}

-- the line of a store that is opened again
abbrev pub reopened_line : {D : Type 0} → LoggedView D → List ℕ
reopened_line v = line_of (Crash (graph_of v.journal.opening))

-- the store is opened again; where the disk tells what it reads, as the same store, and to a graph that a crash may leave
pub record Reopens {D : Type 0} (content : D → Area → Option (List ℕ)) (may_leave : D → Area → List ℕ → Type 0) (faults : D → ℕ) (old new : LoggedView D) : Type 0 where
  pub just : IsJustOpened new
  pub journal : IsOfReplay may_leave new
  pub later : faults old.disk ≤ faults new.disk
  pub same_ids : Tell content → new.journal.history.ids ≡ old.journal.history.ids
  pub safe : Tell content → IsCrashConsistent (end_of (history_of old)) (graph_of new.journal.opening)

-- it isn't opened again, or that can't be told, and the disk is handed back. Where the disk tells what it reads, each image of it
-- still opens to a graph that a crash may leave
pub record StaysShut {D : Type 0} (content : D → Area → Option (List ℕ)) (may_leave : D → Area → List ℕ → Type 0) (faults : D → ℕ) (old : LoggedView D) (before written : Option (List ℕ)) (first_faults faults_now status : ℕ) (disk : D) : Type 0 where
  pub refusal : OpenRefusal
  pub told : status ≡ status_of_refusal refusal
  pub printed : EndsWith before written first_faults faults_now [] (open_refusal_line refusal)
  pub failed : refusal ≡ Disk → Rose (faults old.disk) (faults disk)
  pub later : faults old.disk ≤ faults disk
  pub only_untold : status ≡ 7 → Tell content → ⊥
  pub opens : Tell content → EachImage may_leave disk (OpensAfter object_slots (history_of old))

-- how a loss of power stops a replay: the store isn't opened again, or the sink fails its line
pub data StopsCrash {D : Type 0} (content : D → Area → Option (List ℕ)) (may_leave : D → Area → List ℕ → Type 0) (faults : D → ℕ) (old : LoggedView D) (before written : Option (List ℕ)) (first_faults faults_now status : ℕ) : Ended D → Type 0 where
  shut : (disk : D) → StaysShut content may_leave faults old before written first_faults faults_now status disk
      → StopsCrash content may_leave faults old before written first_faults faults_now status (Shut disk)
  unwritten : (new : LoggedView D) → status ≡ 5 → Reopens content may_leave faults old new → AppendsFront before written (reopened_line new) → Rose first_faults faults_now
      → StopsCrash content may_leave faults old before written first_faults faults_now status (Kept new)
