-- What calls leave of a journal's log, and of the disk under it.
use Rattle.std.specs.Prelude.{◌≡◌, ℕ, ◌+◌, ◌<◌, ◌≤◌, true, Some, None}
use Rattle.disk_model.specs.Causes.{Rose}
use Rattle.plain_model.specs.declared.calls.Call.TheVariants.{Commit}
use Rattle.plain_model.specs.Machine.{refusal_of}
use Rattle.plain_model.specs.History.{end_of}
use Rattle.logged_journal.specs.View.{LoggedView, image_need}
use Rattle.script_lines.specs.Numbers.{object_slots}

-- the journal goes on: the disk failed no commit and no upkeep, and no call was answered that the log is full. The disk's count
-- of faults doesn't fall
pub record StaysRunning {D : Type 0} (faults : D → ℕ) (old new : LoggedView D) : Type 0 where
  pub running : new.failed ≡ None
  pub log_full : new.log_full ≡ old.log_full
  pub later : faults old.disk ≤ faults new.disk

-- a call was answered that the log is full
pub record TellsFull {D : Type 0} (faults : D → ℕ) (old new : LoggedView D) : Type 0 where
  pub running : new.failed ≡ None
  pub marked : new.log_full ≡ true
  pub later : faults old.disk ≤ faults new.disk

-- the disk failed a commit of this client, which would have been done; its count of faults rose
pub record LosesCommit {D : Type 0} (faults : D → ℕ) (client : ℕ) (old new : LoggedView D) : Type 0 where
  pub told : new.failed ≡ Some (record { commit = Some client; faults = faults new.disk })
  pub granted : refusal_of (end_of new.journal.history).state client Commit ≡ None
  pub log_full : new.log_full ≡ old.log_full
  pub rose : Rose (faults old.disk) (faults new.disk)
  pub later : faults old.disk ≤ faults new.disk

-- the disk failed upkeep; its count of faults rose
pub record LosesUpkeep {D : Type 0} (faults : D → ℕ) (old new : LoggedView D) : Type 0 where
  pub told : new.failed ≡ Some (record { commit = None; faults = faults new.disk })
  pub log_full : new.log_full ≡ old.log_full
  pub rose : Rose (faults old.disk) (faults new.disk)
  pub later : faults old.disk ≤ faults new.disk

-- after some call the bytes in use and owed came so near to the limit that those which a page needs to be cleaned would go past it
abbrev pub WasLogFull : {D : Type 0} → LoggedView D → Type 0
WasLogFull v = v.journal.limits.log < v.peak + image_need object_slots
