use Rattle.std.proofs.Common.{◌≡◌, ◌+◌, ◌-◌, ◌≤◌}
use Rattle.std.specs.Prelude.{IfSome}
use Rattle.gate_log.specs.Batches.{most_bytes}
use Rattle.store_opening.specs.Looks.{IsLookedAt}
use Rattle.current_log.specs.Tested.{HasTested}
use Rattle.current_log.specs.Window.{IsWindow}
use Rattle.current_log.proofs.testing.test_batches.Given as goal

abbrev pub invariant-batches : goal.invariant-batches
invariant-batches g l =
    IfSome (g.D.Disk.content l.initial.disk l.fn.area) (HasTested g.row.SLOTS l.fn.pages l.at l.replay) × (l.at ≤ most_bytes)
    × IsLookedAt g.D.Disk.content g.D.Disk.may_leave g.D.Disk.moment g.D.Disk.left_since l.initial.disk l.disk
    × (g.D.Disk.faults l.disk ≡ g.D.Disk.faults l.initial.disk) × IsWindow (g.D.Disk.content l.disk l.fn.area) l.window

abbrev pub decreases-batches : goal.decreases-batches
decreases-batches g l = most_bytes + 1 - l.at
