-- The disk of the operating system.
use Rattle.std.specs.Prelude.{ℕ, ◌≤◌, List, Bool, true, Option, None, IfSome, IsSome}
use Rattle.disk_model.specs.declared.area.Area.{Area}
use Rattle.disk_model.specs.declared.area.Area.TheVariants.{Pages}
use Rattle.disk_model.specs.Areas.{Bytes}
use Rattle.disk_model.specs.Causes.{raised}
use Rattle.disk_model.specs.Told.{IsImage}

-- what contracts see of it
pub record HostState : Type 0 where
  -- how many calls failed
  pub faults : ℕ
  -- one of them was a sync
  pub sync_failed : Bool

-- after a call that failed, other than a sync
abbrev pub after_fault : HostState → HostState
after_fault s = record s { faults = raised s.faults }

-- after a sync that failed
abbrev pub after_failed_sync : HostState → HostState
after_failed_sync s = record { faults = raised s.faults; sync_failed = true }

-- it tells no content of an area
abbrev pub untold_content : HostState → Area → Option (List ℕ)
untold_content _ _ = None

-- nor any bytes that a power loss may leave there
abbrev pub untold_left : HostState → Area → List ℕ → Type 0
untold_left _ _ _ = ⊥

-- so it has one moment
abbrev pub one_moment : HostState → ℕ
one_moment _ = 0

-- since which no bytes are told that were left
abbrev pub untold_since : HostState → ℕ → Bytes → Type 0
untold_since _ _ _ = ⊥

-- the laws of a disk, where nothing is told
pub reads_untold : (s : HostState) (area : Area) → IfSome (untold_content s area) (untold_left s area)
reads_untold s area = tt

pub together_untold : (s : HostState) (area other : Area) → IfSome (untold_content s area) (λ _. IsSome (untold_content s other))
together_untold s area other = tt

pub counts_untold : (s : HostState) (t : ℕ) (b : Bytes) → t ≤ one_moment s → IsImage untold_left s b → untold_since s t b
counts_untold s t b le image = image Pages

pub only_untold : (s : HostState) (b : Bytes) → untold_since s (one_moment s) b → IsImage untold_left s b
only_untold s b none area = none
