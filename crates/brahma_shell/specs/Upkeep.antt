-- What upkeep leaves, of a page or of the log.
use Rattle.std.specs.Prelude.{ℕ, List, []}
use Rattle.disk_model.specs.declared.area.Area.{Area}
use Rattle.disk_model.specs.Told.{EachImage}
use Rattle.gate_log.specs.State.{other_log}
use Rattle.cell_page.specs.declared.cell.Cell.{Cell as PageCell}
use Rattle.cell_page.specs.Stored.{HoldsPage}
use Rattle.core_store.specs.JournalView.{cells_of}
use Rattle.logged_journal.specs.declared.upkeep.Upkeep.{Upkeep}
use Rattle.logged_journal.specs.declared.upkeep.Upkeep.TheVariants as upkeep
use Rattle.logged_journal.specs.View.{LoggedView}
use Rattle.logged_journal.specs.Upkeep.{IsClean, IsTurned}
use Rattle.brahma_shell.specs.Growth.{GrowsBy, BecomesFull}
use Rattle.brahma_shell.specs.Log.{StaysRunning, TellsFull, LosesUpkeep}
use Rattle.script_lines.specs.Numbers.{object_slots}

-- in each image of the disk the page stands in place as it is in the store, and is the log's last image of it
abbrev pub HasClean : {D : Type 0} → (D → Area → List ℕ → Type 0) → ℕ → LoggedView D → LoggedView D → Type 0
HasClean may_leave page old new = (held : List (PageCell object_slots)) × HoldsPage (cells_of old.journal) page held × EachImage may_leave new.disk (IsClean page held)

-- in each image of the disk every page stands in place as it is in the store, and the log has begun anew in its other area
abbrev pub HasTurned : {D : Type 0} → (D → Area → List ℕ → Type 0) → LoggedView D → LoggedView D → Type 0
HasTurned may_leave old new = EachImage may_leave new.disk (IsTurned object_slots (cells_of old.journal) (other_log old.log.area))

-- what upkeep leaves that was not done, where no client is in its way
abbrev pub GivesUp : {D : Type 0} → (D → ℕ) → LoggedView D → LoggedView D → Upkeep → Type 0
GivesUp faults old new upkeep.Done = Unit {0}
GivesUp faults old new (upkeep.Busy pass) = Unit {0}
GivesUp faults old new (upkeep.Stopped n) = ⊥
GivesUp faults old new upkeep.TraceFull = BecomesFull old.journal new.journal × StaysRunning faults old new
GivesUp faults old new upkeep.LogFull = GrowsBy old.journal new.journal [] × TellsFull faults old new
GivesUp faults old new upkeep.Memory = GrowsBy old.journal new.journal [] × StaysRunning faults old new
GivesUp faults old new upkeep.DiskFault = GrowsBy old.journal new.journal [] × LosesUpkeep faults old new
