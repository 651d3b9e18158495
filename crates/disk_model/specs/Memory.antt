-- A disk in memory.
use Rattle.std.specs.Prelude.{◌≡◌, ◌⊎◌, ℕ, ◌<◌, ◌≤◌, List, length, take, [], Contains, Option, Some, None}
use Rattle.disk_model.specs.Causes.{raised}
use Rattle.disk_model.specs.declared.area.Area.{Area}
use Rattle.disk_model.specs.Areas.{Bytes}
use Rattle.disk_model.specs.Pending.{Held, reads, MayLeaveIn, held_after}
use Rattle.disk_model.specs.Told.{IsImage}

-- the calls that were made, and those that fail
pub record CallsState : Type 0 where
  -- how many calls were made
  pub made : ℕ
  -- the calls that fail, by their numbers from 1 on
  pub fails : List ℕ
  -- the number of calls after which each one fails
  pub stop_after : Option ℕ
  -- how many calls failed
  pub faults : ℕ
  -- how many of these were out of memory
  pub starved : ℕ

-- the call of this number comes after the stop
abbrev pub IsPast : Option ℕ → ℕ → Type 0
IsPast None number = ⊥
IsPast (Some stop) number = stop < number

-- the next call is one of those that fail
abbrev pub FailsNext : CallsState → Type 0
FailsNext s = Contains s.fails (raised s.made) ⊎ IsPast s.stop_after (raised s.made)

-- after a call that was made and did not fail
abbrev pub after_call : CallsState → CallsState
after_call s = record s { made = raised s.made }

-- after a failure of a call that was made
abbrev pub after_failure : CallsState → CallsState
after_failure s = record s { faults = raised s.faults }

-- after a failure out of memory
abbrev pub after_starving : CallsState → CallsState
after_starving s = record s { faults = raised s.faults; starved = raised s.starved }

-- no call fails any more
abbrev pub after_revival : CallsState → CallsState
after_revival s = record s { fails = []; stop_after = None }

-- what contracts see of the disk
pub record DiskState : Type 0 where
  pub held : Held
  pub calls : CallsState

-- what an area of the disk reads
abbrev pub content_of : DiskState → Area → Option (List ℕ)
content_of s area = Some (reads s.held area)

-- a power loss may leave these bytes in an area of the disk
abbrev pub left_of : DiskState → Area → List ℕ → Type 0
left_of s area bytes = MayLeaveIn s.held area bytes

-- the number of a moment: how much was done so far
abbrev pub moment_of : DiskState → ℕ
moment_of s = length s.held.past

-- a power loss may leave these bytes now, or might have at an earlier moment from that one on
abbrev pub since_of : DiskState → ℕ → Bytes → Type 0
since_of s t b =
    IsImage left_of s b
    ⊎ ((k : ℕ) × (t ≤ k) × (k < length s.held.past) × IsImage MayLeaveIn (held_after s.held.first (take k s.held.past)) b)

-- after a call that changes nothing
abbrev pub after_look : DiskState → DiskState
after_look s = record s { calls = after_call s.calls }

-- after a call that failed because it is on the list or past the stop: nothing else changes
abbrev pub after_fault : DiskState → DiskState
after_fault s = record s { calls = after_failure (after_call s.calls) }

-- after a call that found no memory: nothing else changes
abbrev pub after_no_memory : DiskState → DiskState
after_no_memory s = record s { calls = after_starving (after_call s.calls) }

-- after a call that succeeded, with this held
abbrev pub after_success : DiskState → Held → DiskState
after_success s held = record { held = held; calls = after_call s.calls }

-- a call failed because it is on the list or past the stop, or it found no memory
abbrev pub HasFailed : DiskState → DiskState → Type 0
HasFailed before now = (FailsNext before.calls × (now ≡ after_fault before)) ⊎ (now ≡ after_no_memory before)
