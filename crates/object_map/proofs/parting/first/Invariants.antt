use Rattle.std.specs.Prelude.{◌≤◌, ◌-◌, ◌*◌, []}
use Rattle.object_map.specs.Clients.{seen, Asks}
use Rattle.object_map.specs.Parting.{IsOnFirst}
use Rattle.object_map.proofs.parting.first.Given as goal

abbrev pub invariant-down : goal.invariant-down
invariant-down g l = record { way : IsOnFirst l.r l.last (seen l.fn.client) (seen l.client); few : l.last ≤ 64; asks : Asks (3 * (64 - l.last)) [] l.fn.client l.client }

abbrev pub decreases-down : goal.decreases-down
decreases-down g l = l.last
