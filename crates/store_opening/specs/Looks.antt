-- A disk that is only looked at.
use Rattle.std.specs.Prelude.{ℕ, List, Option}
use Rattle.disk_model.specs.declared.area.Area.{Area}
use Rattle.disk_model.specs.Areas.{Bytes}
use Rattle.disk_model.specs.Told.{KeepsAll, IsImage}
use Rattle.disk_model.specs.Time.{LeavesOnlyImages}

module _ {D : Type 0} (content : D → Area → Option (List ℕ)) (may_leave : D → Area → List ℕ → Type 0) (moment : D → ℕ) (left_since : D → ℕ → Bytes → Type 0) where
  -- all areas read as before, and at each moment a power loss leaves only what it might have left before
  pub record IsLookedAt (before now : D) : Type 0 where
    pub keeps : KeepsAll content may_leave before now
    pub moments : LeavesOnlyImages moment left_since before now (IsImage may_leave before)
