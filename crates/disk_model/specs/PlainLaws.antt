-- A disk of which a crash leaves the images of `CrashImages` and no others keeps what `Disk` promises.
use Rattle.std.specs.Prelude.{ℕ, ◌≤◌, List, length, take, IfSome}
use Rattle.disk_model.specs.declared.area.Area.{Area}
use Rattle.disk_model.specs.Areas.{Bytes}
use Rattle.disk_model.specs.Changes.{written, Torn, PartlyCut}
use Rattle.disk_model.specs.Pending.{Wrote, CutTo}
use Rattle.disk_model.specs.Told.{KeepsAll, KeepsOthers, Follows, IsSettled, LeavesOne, IsImage}
use Rattle.disk_model.specs.Time.{Elapses}
use Rattle.disk_model.specs.PlainDisk.{PlainDisk, ReadsImages, plain_content, plain_may_leave, plain_moment, plain_left_since, plain_after, plain_after_sync, plain_after_loss}

-- what `Disk` promises of a write or a cut of this area, where such a step is what it leaves, and that
-- what is read stays an image
pub record StepsAsPromised (step : List ℕ → List ℕ → Type 0) (area : Area) (old new : PlainDisk) : Type 0 where
  pub left : Follows plain_content plain_may_leave step old new area
  pub keeps : KeepsOthers plain_content plain_may_leave old new area
  pub time : Elapses plain_may_leave plain_moment plain_left_since old new
  pub reads : ReadsImages new

-- what it promises of a call that changes nothing
pub record KeepsAsPromised (old new : PlainDisk) : Type 0 where
  pub keeps : KeepsAll plain_content plain_may_leave old new
  pub time : Elapses plain_may_leave plain_moment plain_left_since old new
  pub reads : ReadsImages new

-- a write, where what is read then is any outcome of it; one that failed may have any, one that succeeded the whole write
abbrev pub plain-write : Type 0
plain-write = (disk : PlainDisk) (area : Area) (at : ℕ) (bytes outcome : List ℕ) → ReadsImages disk
    → at ≤ length (disk.now area).reads → Torn at (length bytes) (disk.now area).reads outcome
    → StepsAsPromised (Torn at (length bytes)) area disk (plain_after disk area (Wrote at bytes) outcome)

-- a cut, likewise
abbrev pub plain-cut : Type 0
plain-cut = (disk : PlainDisk) (area : Area) (len : ℕ) (outcome : List ℕ) → ReadsImages disk
    → PartlyCut len (disk.now area).reads outcome
    → StepsAsPromised (PartlyCut len) area disk (plain_after disk area (CutTo len) outcome)

-- the whole of a write, and of a cut, is one of its outcomes
abbrev pub whole-write : Type 0
whole-write = (at : ℕ) (bytes old : List ℕ) → Torn at (length bytes) old (written at bytes old)

abbrev pub whole-cut : Type 0
whole-cut = (len : ℕ) (old : List ℕ) → PartlyCut len old (take len old)

-- a sync that succeeded
abbrev pub plain-sync : Type 0
plain-sync = (disk : PlainDisk) (area : Area) → ReadsImages disk
    → IsSettled plain_content plain_may_leave (plain_after_sync disk area) area × KeepsAsPromised disk (plain_after_sync disk area)

-- a call that does nothing
abbrev pub plain-look : Type 0
plain-look = (disk : PlainDisk) → ReadsImages disk → KeepsAsPromised disk disk

-- a power loss that left one of the images
abbrev pub plain-loss : Type 0
plain-loss = (disk : PlainDisk) (image : Bytes) → IsImage plain_may_leave disk image
    → LeavesOne plain_content plain_may_leave disk (plain_after_loss disk image) × ReadsImages (plain_after_loss disk image)

-- the trait's own laws
abbrev pub plain-reads : Type 0
plain-reads = (disk : PlainDisk) (area : Area) → ReadsImages disk → IfSome (plain_content disk area) (plain_may_leave disk area)

abbrev pub plain-counts_now : Type 0
plain-counts_now = (disk : PlainDisk) (t : ℕ) (image : Bytes) → t ≤ plain_moment disk → IsImage plain_may_leave disk image → plain_left_since disk t image

abbrev pub plain-only_now : Type 0
plain-only_now = (disk : PlainDisk) (image : Bytes) → plain_left_since disk (plain_moment disk) image → IsImage plain_may_leave disk image
