-- What contracts see of a store that keeps a map, and what its calls do.
use Rattle.std.specs.Prelude.{◌≡◌, ◌⊎◌, ◌↔◌, ℕ, ◌<◌, Bool, true, false, List, codes}
use Rattle.disk_model.specs.Areas.{Bytes}
use Rattle.disk_model.specs.Causes.{Rose}
use Rattle.store_opening.specs.declared.open_refusal.OpenRefusal.{OpenRefusal}
use Rattle.store_opening.specs.declared.open_refusal.OpenRefusal.TheVariants as refusal
use Rattle.script_lines.specs.Output.{open_refusal_line}
use Rattle.map_calls.specs.Output.{no_map_line}
use Rattle.map_calls.specs.declared.failure.Failure.{Failure}
use Rattle.map_calls.specs.declared.failure.Failure.TheVariants as failure
use Rattle.map_calls.specs.declared.failure.Unopened.{Unopened}
use Rattle.map_calls.specs.declared.failure.Unopened.TheVariants as unopened
use Rattle.map_calls.specs.declared.put.Put.{Put}
use Rattle.map_calls.specs.declared.put.Put.TheVariants.{Stored, NoRoom}
use Rattle.plain_map.specs.Pairs.{value_of}
use Rattle.map_calls.specs.Maps.{MapState, needs, Puts}

-- a store that keeps a map: the map of its commits, how many ids are free now, whether it is open and takes calls, how many calls
-- of its disk failed, and whether its history or its log is full
pub record StoreView : Type 0 where
  pub map : MapState
  pub room : ℕ
  pub running : Bool
  pub faults : ℕ
  pub history_full : Bool
  pub log_full : Bool

-- What a power loss may leave of a disk: which bytes, and whether such bytes are a store that opens and keeps this map, with as many ids and
-- the same objects that the root reaches.
pub record Leaving : Type 1 where
  pub left : Bytes → Type 0
  pub keeps : Bytes → MapState → Type 0

-- whatever a power loss leaves keeps this map
abbrev pub LeavesOne : Leaving → MapState → Type 0
LeavesOne l m = (image : Bytes) → l.left image → l.keeps image m

-- whatever a power loss leaves keeps this map, or one that is so
abbrev pub LeavesEither : Leaving → MapState → (MapState → Type 0) → Type 0
LeavesEither l m IsAsked = (image : Bytes) → l.left image → l.keeps image m ⊎ ((n : MapState) × IsAsked n × l.keeps image n)

-- the store takes calls and isn't full, and a power loss now leaves its map
pub record GoesOn (now : StoreView) (leaves : Leaving) : Type 0 where
  pub running : now.running ≡ true
  pub unmarked : (now.history_full ≡ false) × (now.log_full ≡ false)
  pub left : LeavesOne leaves now.map

-- a call that failed leaves the map of before; where the disk failed a commit, perhaps one that the call was to lead to
abbrev pub LeavesThen : Failure → Leaving → MapState → (MapState → Type 0) → Type 0
LeavesThen failure.Disk leaves before IsAsked = LeavesEither leaves before IsAsked
LeavesThen _ leaves before IsAsked = LeavesOne leaves before

-- the call failed, and the store is marked as full exactly where that is the cause
pub record Fails (cause : Failure) (before now : StoreView) (leaves : Leaving) (IsAsked : MapState → Type 0) : Type 0 where
  pub disk : cause ≡ failure.Disk → Rose before.faults now.faults
  pub history : (cause ≡ failure.HistoryFull) ↔ (now.history_full ≡ true)
  pub log : (cause ≡ failure.LogFull) ↔ (now.log_full ≡ true)
  pub left : LeavesThen cause leaves before.map IsAsked

-- one try to put a pair: it is stored, and this value was there; or fewer ids are free now than it needs, and the map stays
abbrev pub Tries : ℕ → ℕ → Put → StoreView → StoreView → Type 0
Tries key value (Stored old) before now = (old ≡ value_of key before.map.pairs) × Puts key value before.map now.map
Tries key value NoRoom before now = (before.room < needs key before.map.pairs) × (now.map ≡ before.map)

-- the same after a collection, where one was needed
abbrev pub Places : ℕ → ℕ → Put → MapState → MapState → Type 0
Places key value (Stored old) m n = (old ≡ value_of key m.pairs) × Puts key value m n
Places key value NoRoom m n = (m.free < needs key m.pairs) × (n ≡ m)

-- ---- statuses and last lines

-- the status of a call that failed
abbrev pub status_of_failure : Failure → ℕ
status_of_failure failure.Disk = 6
status_of_failure failure.HistoryFull = 9
status_of_failure failure.LogFull = 9
status_of_failure failure.Memory = 8

-- the last line there
abbrev pub failure_line : Failure → List ℕ
failure_line failure.Disk = codes "refused: disk\n"
failure_line failure.HistoryFull = codes "refused: trace\n"
failure_line failure.LogFull = codes "refused: log\n"
failure_line failure.Memory = codes "refused: memory\n"

-- the status of a store that isn't opened
abbrev pub status_of_refusal : OpenRefusal → ℕ
status_of_refusal refusal.Disk = 6
status_of_refusal refusal.Memory = 8
status_of_refusal refusal.LogFull = 9
status_of_refusal _ = 7

-- the status of a store that isn't opened after a loss of power, or keeps no map there
abbrev pub status_of_unopened : Unopened → ℕ
status_of_unopened unopened.Power = 6
status_of_unopened (unopened.Refused refused) = status_of_refusal refused
status_of_unopened (unopened.NoMap id) = 7
status_of_unopened (unopened.Unread cause) = status_of_failure cause

-- the last line there
abbrev pub unopened_line : Unopened → List ℕ
unopened_line unopened.Power = codes "refused: disk\n"
unopened_line (unopened.Refused refused) = open_refusal_line refused
unopened_line (unopened.NoMap id) = no_map_line id
unopened_line (unopened.Unread cause) = failure_line cause

-- The store isn't opened after a loss of power, or keeps no map there. Where it is told what the disk reads, it isn't refused as
-- damaged, and a power loss leaves the map of before.
pub record StaysShut (told : Type 0) (cause : Unopened) (before now : StoreView) (leaves : Leaving) : Type 0 where
  pub disk : status_of_unopened cause ≡ 6 → Rose before.faults now.faults
  pub history : (cause ≡ unopened.Unread failure.HistoryFull) ↔ (now.history_full ≡ true)
  pub log : (cause ≡ unopened.Unread failure.LogFull) ↔ (now.log_full ≡ true)
  pub sound : told → status_of_unopened cause ≡ 7 → ⊥
  pub left : told → LeavesOne leaves before.map
