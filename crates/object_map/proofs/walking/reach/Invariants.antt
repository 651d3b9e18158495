use Rattle.std.specs.Prelude.{◌≡◌, ◌≤◌, ◌+◌, ◌-◌, ◌*◌, [], Some}
use Rattle.object_map.specs.Clients.{seen, Asks}
use Rattle.object_map.specs.Seen.{at, held}
use Rattle.object_map.specs.Walking.{Looks}
use Rattle.object_map.proofs.LookLaws.{LeadsOn}
use Rattle.object_map.proofs.walking.reach.Given as goal

abbrev pub invariant-down : goal.invariant-down
invariant-down g l = record { way : LeadsOn (at (seen l.fn.client)) l.guide l.last l.id l.target; here : held (seen l.client) 1 ≡ Some l.id; looks : Looks l.fn.client l.client; few : l.last ≤ 64; asks : Asks (1 + 2 * (64 - l.last)) [] l.fn.client l.client }

abbrev pub decreases-down : goal.decreases-down
decreases-down g l = l.last
