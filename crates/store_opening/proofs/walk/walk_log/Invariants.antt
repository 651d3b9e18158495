use Rattle.std.proofs.Common.{◌≡◌, ℕ, ◌-◌, ◌^◌, ◌≤◌, List, length}
use Rattle.gate_log.specs.declared.stage.Stage.TheVariants.{Reading}
use Rattle.log_replay.specs.Replays.{Replaying}
use Rattle.store_opening.specs.Looks.{IsLookedAt}
use Rattle.store_opening.specs.Walked.{HasWalked}
use Rattle.store_opening.proofs.walk.walk_log.Given as goal

abbrev pub invariant-batches : goal.invariant-batches
invariant-batches g l =
    (l.log.stage ≡ Reading) × (l.log.area ≡ l.initial.log.area) × (l.walk.awaited.items ≡ l.walk.replay.skips) × (length l.walk.marks ≡ length l.walk.replay.skips)
    × ((v : Replaying) (read : List (List ℕ)) → HasWalked g.D.Disk.content g.D.Disk.may_leave g.row.SLOTS read v l.initial.walk.replay l.initial.walk.marks l.initial.log l.initial.disk
    → HasWalked g.D.Disk.content g.D.Disk.may_leave g.row.SLOTS read v l.walk.replay l.walk.marks l.log l.disk)
    × IsLookedAt g.D.Disk.content g.D.Disk.may_leave g.D.Disk.moment g.D.Disk.left_since l.initial.disk l.disk
    × (g.D.Disk.faults l.disk ≡ g.D.Disk.faults l.initial.disk) × (l.log.tail ≡ l.initial.log.tail)

abbrev pub decreases-batches : goal.decreases-batches
decreases-batches g l = 2 ^ 64 - l.log.durable
