use Rattle.std.proofs.Common.{◌≡◌, ◌-◌, ◌≤◌, length}
use Rattle.store_opening.specs.Looks.{IsLookedAt}
use Rattle.stream_writing.specs.Copied.{HasCopied}
use Rattle.stream_writing.proofs.copy.copy_by.Given as goal

abbrev pub invariant-pieces : goal.invariant-pieces
invariant-pieces g l =
    HasCopied (g.D.Disk.content l.initial.disk l.fn.area) l.at (g.W.Sink.written l.initial.out) (g.W.Sink.written l.out) × (l.at ≤ l.len)
    × IsLookedAt g.D.Disk.content g.D.Disk.may_leave g.D.Disk.moment g.D.Disk.left_since l.initial.disk l.disk
    × (length l.piece ≡ length l.initial.piece) × (g.D.Disk.faults l.disk ≡ g.D.Disk.faults l.initial.disk) × (g.W.Sink.faults l.out ≡ g.W.Sink.faults l.initial.out)

abbrev pub decreases-pieces : goal.decreases-pieces
decreases-pieces g l = l.len - l.at
