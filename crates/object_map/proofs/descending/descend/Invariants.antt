use Rattle.std.specs.Prelude.{◌-◌, ◌*◌, []}
use Rattle.object_map.specs.Clients.{seen, Asks}
use Rattle.object_map.specs.Ways.{IsOnWay}
use Rattle.object_map.proofs.descending.descend.Given as goal

abbrev pub invariant-down : goal.invariant-down
invariant-down g l = record { way : IsOnWay l.key l.last (seen l.fn.client) (seen l.client); asks : Asks (3 * (64 - l.last)) [] l.fn.client l.client }

abbrev pub decreases-down : goal.decreases-down
decreases-down g l = l.last
