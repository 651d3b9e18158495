use Rattle.std.specs.Prelude.{◌≡◌, ◌≢◌, ℕ, ◌<◌, ◌≤◌, []}
use Rattle.object_map.specs.Clients.{seen, Asks}
use Rattle.object_map.specs.Maps.{slot_of}
use Rattle.object_map.specs.Seen.{at, held_id}
use Rattle.object_map.specs.Walking.{Scans}
use Rattle.object_map.proofs.walking.has_only.Given as goal

abbrev pub invariant-loop-slot : goal.invariant-loop-slot
invariant-loop-slot g l = record { null : (k : ℕ) → k < l.slot → k ≢ l.a → k ≢ l.b → slot_of (at (seen l.fn.client) (held_id (seen l.fn.client) l.r)) k ≡ 0; scans : Scans l.fn.client l.client; asks : Asks l.slot [] l.fn.client l.client; few : l.slot ≤ 14 }
