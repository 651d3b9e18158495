use Rattle.std.specs.Prelude.{◌+◌, ◌-◌, ◌*◌, []}
use Rattle.object_map.specs.Clients.{seen, Asks}
use Rattle.object_map.specs.Seeking.{IsSeeking}
use Rattle.object_map.proofs.removing.seek.Given as goal

abbrev pub invariant-down : goal.invariant-down
invariant-down g l = record { way : IsSeeking l.key l.last l.side l.register l.slot l.only (seen l.fn.client) (seen l.client); asks : Asks (1 + 5 * (64 - l.last)) [] l.fn.client l.client }

abbrev pub decreases-down : goal.decreases-down
decreases-down g l = l.last
