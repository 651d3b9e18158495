-- How the command `backup` ends.
use Rattle.std.specs.Prelude.{◌≡◌, ◌⊎◌, ◌↔◌, ℕ, ◌+◌, ◌*◌, List, [], Option, true, false, length, codes}
use Rattle.std.specs.Io.KnownBytes.{Appends}
use Rattle.disk_model.specs.declared.area.Area.{Area}
use Rattle.disk_model.specs.Areas.{Bytes}
use Rattle.disk_model.specs.Causes.{Rose}
use Rattle.disk_model.specs.Told.{EachImage}
use Rattle.cell_model.specs.Cells.{Cell}
use Rattle.core_store.specs.Opening.{opened_history}
use Rattle.logged_journal.specs.View.{LoggedView, OnlyTakesRoom}
use Rattle.logged_journal.specs.Opens.{OpensAfter}
use Rattle.logged_journal.specs.Upkeep.{IsTurned, FailsUpkeep, IsPastLogToTurn}
use Rattle.journal_opening.specs.Openings.{ReadsAs}
use Rattle.script_lines.specs.Numbers.{object_slots}
use Rattle.script_lines.specs.Output.{AppendsFront}
use Rattle.stream_writing.specs.Backups.{IsBaseOf, HasTurned}
use Rattle.brahma_shell.specs.declared.ended.Ended.{Ended}
use Rattle.brahma_shell.specs.declared.ended.Ended.TheVariants.{Kept}
use Rattle.brahma_shell.specs.Ended.{disk_in}
use Rattle.brahma_shell.specs.Top.{Outside, Ends}

-- what a backup leaves of a store, by its status
pub record LeavesStore {D : Type 0} (faults : D → ℕ) (may_leave : D → Area → List ℕ → Type 0) (status : ℕ) (old new : LoggedView D) : Type 0 where
  pub turned : (status ≡ 0) ⊎ (status ≡ 5) → HasTurned object_slots may_leave old new
  pub failed : status ≡ 6 → FailsUpkeep faults old new
  pub starved : status ≡ 8 → OnlyTakesRoom old new
  pub full : status ≡ 9 → IsPastLogToTurn object_slots old × OnlyTakesRoom (record old { log_full = true }) new

-- in this image every page of these cells stands in place, and the current log area has the first batch alone
abbrev pub IsAtCheckpoint : List Cell → Bytes → Type 0
IsAtCheckpoint cells image = (area : Area) × IsTurned object_slots cells area image

-- a backup of the store that the disk held ended with this status
pub record BackedUp {D : Type 0} (content : D → Area → Option (List ℕ)) (may_leave : D → Area → List ℕ → Type 0) (disk : D) (before after : Outside) (status : ℕ) (ended : Ended D) : Type 0 where
  pub pages : ℕ
  pub cells : List Cell
  pub opened : ReadsAs content object_slots disk cells
  pub size : length cells ≡ 8 * pages + 1
  -- the journal is handed back, which is marked as full exactly where the status says so
  pub journal : (v : LoggedView D) × (ended ≡ Kept v) × (v.journal.opening ≡ cells) × ((v.log_full ≡ true) ↔ (status ≡ 9)) × (v.journal.marks.trace ≡ false)
  -- the disk is as after an audit
  pub exit : EachImage may_leave (disk_in ended) (OpensAfter object_slots (opened_history object_slots (8 * pages) cells))
  pub statuses : (status ≡ 0) ⊎ ((status ≡ 5) ⊎ ((status ≡ 6) ⊎ ((status ≡ 8) ⊎ (status ≡ 9))))
  -- a checkpoint was made, so that the log has its first batch alone
  pub turned : (status ≡ 0) ⊎ (status ≡ 5) → EachImage may_leave (disk_in ended) (IsAtCheckpoint cells)
  pub done : status ≡ 0 → (bytes : List ℕ) × IsBaseOf object_slots (8 * pages) cells bytes × Appends before.written after.written bytes
  pub write : status ≡ 5 → Rose before.write_faults after.write_faults × ((bytes : List ℕ) × IsBaseOf object_slots (8 * pages) cells bytes × AppendsFront before.written after.written bytes)
  pub failed : status ≡ 6 → Rose before.disk_faults after.disk_faults × Ends before after [] (codes "refused: disk\n")
  pub memory : status ≡ 8 → Ends before after [] (codes "refused: memory\n")
  -- with the images that a checkpoint needs the log would be longer than a log may be
  pub limit : status ≡ 9 → Ends before after [] (codes "refused: log\n") × ((v : LoggedView D) × (ended ≡ Kept v) × IsPastLogToTurn object_slots v)
