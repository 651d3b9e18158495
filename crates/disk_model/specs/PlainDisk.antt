-- A disk of which a crash leaves the images of `CrashImages` and no others.
use Rattle.std.specs.Prelude.{◌⊎◌, ℕ, ◌≤◌, List, [], ◌∷◌, ◌++◌, length, Option, Some, if◌then◌else◌}
use Rattle.disk_model.specs.declared.area.Area.{Area}
use Rattle.disk_model.specs.Areas.{Bytes, in_area, is_same}
use Rattle.disk_model.specs.Pending.{Change}
use Rattle.disk_model.specs.CrashImages.{PlainArea, IsCrashImage}

-- its areas, and those of each moment before, the last one first
pub record PlainDisk : Type 0 where
  pub now : Area → PlainArea
  pub before : List (Area → PlainArea)

-- what an area reads
abbrev pub plain_content : PlainDisk → Area → Option (List ℕ)
plain_content disk area = Some (disk.now area).reads

-- a crash may leave these bytes in an area
abbrev pub plain_may_leave : PlainDisk → Area → List ℕ → Type 0
plain_may_leave disk area bytes = IsCrashImage (disk.now area) bytes

-- a crash may leave these bytes in these areas
abbrev pub AreCrashImages : (Area → PlainArea) → Bytes → Type 0
AreCrashImages areas image = (area : Area) → IsCrashImage (areas area) (in_area image area)

-- how many moments came before
abbrev pub plain_moment : PlainDisk → ℕ
plain_moment disk = length disk.before

-- at one of these moments, from this one on, a crash might have left these bytes
abbrev pub WereCrashImages : List (Area → PlainArea) → ℕ → Bytes → Type 0
WereCrashImages [] from image = ⊥
WereCrashImages (areas ∷ older) from image = ((from ≤ length older) × AreCrashImages areas image) ⊎ WereCrashImages older from image

-- a crash may leave these bytes now, or might have at a moment from that one on
abbrev pub plain_left_since : PlainDisk → ℕ → Bytes → Type 0
plain_left_since disk from image = AreCrashImages disk.now image ⊎ WereCrashImages disk.before from image

-- the areas with another one in the place of this one
abbrev pub with_plain_area : (Area → PlainArea) → Area → PlainArea → Area → PlainArea
with_plain_area areas area new other = if is_same other area then new else areas other

-- the disk at its next moment, where it has these areas
abbrev pub at_next : PlainDisk → (Area → PlainArea) → PlainDisk
at_next disk areas = record { now = areas; before = disk.now ∷ disk.before }

-- an area after a write or a cut, whether it succeeded or not, where it then reads these bytes
abbrev pub area_after : PlainArea → Change → List ℕ → PlainArea
area_after area change bytes = record { synced = area.synced; since = area.since ++ change ∷ []; reads = bytes }

-- the disk after that
abbrev pub plain_after : PlainDisk → Area → Change → List ℕ → PlainDisk
plain_after disk area change bytes = at_next disk (with_plain_area disk.now area (area_after (disk.now area) change bytes))

-- an area of which these bytes are there for good
abbrev pub lasting : List ℕ → PlainArea
lasting bytes = record { synced = bytes; since = []; reads = bytes }

-- the disk after a sync that succeeded
abbrev pub plain_after_sync : PlainDisk → Area → PlainDisk
plain_after_sync disk area = at_next disk (with_plain_area disk.now area (lasting (disk.now area).reads))

-- the disk after a power loss that left this image
abbrev pub plain_after_loss : PlainDisk → Bytes → PlainDisk
plain_after_loss disk image = at_next disk (λ area. lasting (in_area image area))

-- what each area reads is one of its images
abbrev pub ReadsImages : PlainDisk → Type 0
ReadsImages disk = (area : Area) → IsCrashImage (disk.now area) (disk.now area).reads
