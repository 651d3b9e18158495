-- What a backup writes, and what it leaves of the store.
use Rattle.std.specs.Prelude.{◌≡◌, ℕ, ◌*◌, ◌<◌, ◌≤◌, List, [], length, slice_index_or, Result, IsErrOf}
use Rattle.disk_model.specs.declared.area.Area.{Area}
use Rattle.disk_model.specs.Causes.{Rose}
use Rattle.disk_model.specs.Told.{EachImage}
use Rattle.cell_model.specs.Cells.{Cell}
use Rattle.cell_page.specs.declared.cell.Cell.{Cell as PageCell}
use Rattle.cell_page.specs.Format.{AreTyped}
use Rattle.cell_page.specs.Stored.{HoldsPage}
use Rattle.gate_log.specs.State.{other_log}
use Rattle.core_store.specs.JournalView.{cells_of}
use Rattle.logged_journal.specs.View.{LoggedView}
use Rattle.logged_journal.specs.Upkeep.{Turns, IsTurned}
use Rattle.ship_stream.specs.Reading.{base_bytes}
use Rattle.stream_writing.specs.declared.backup_refusal.BackupRefusal.{BackupRefusal}
use Rattle.stream_writing.specs.declared.backup_refusal.BackupRefusal.TheVariants.{Write}

-- These bytes are the base of a stream of the store with these cells, which has so many ids: the number of its pages, and then each
-- page, in order, by its one spelling.
pub record IsBaseOf (slots ids : ℕ) (cells : List Cell) (bytes : List ℕ) : Type 0 where
  pub pages : ℕ
  pub whole : 8 * pages ≡ ids
  pub held : List (List (PageCell slots))
  pub number : length held ≡ pages
  pub each : (page : ℕ) → page < pages → HoldsPage cells page (slice_index_or held page [])
  -- each number of a page is in the range of its type, so that its bytes tell it
  pub typed : (page : ℕ) → page < pages → AreTyped (slice_index_or held page [])
  pub are : bytes ≡ base_bytes pages held

-- A checkpoint was made: whatever a power loss leaves of the disk has every page in place, and a log of its first batch alone in the
-- other log area.
pub record HasTurned {D : Type 0} (slots : ℕ) (may_leave : D → Area → List ℕ → Type 0) (old new : LoggedView D) : Type 0 where
  pub turns : Turns slots old new
  pub images : EachImage may_leave new.disk (IsTurned slots (cells_of old.journal) (other_log old.log.area))

-- The sink's count of faults never falls. It rose where the sink failed, and is as before at each other answer.
pub record HasSinkCause {T : Type 0} (before now : ℕ) (result : Result T BackupRefusal) : Type 0 where
  pub later : before ≤ now
  pub failed : IsErrOf result Write → Rose before now
  pub kept : (IsErrOf result Write → ⊥) → now ≡ before
