use Rattle.std.proofs.Common.{◌≡◌, ◌-◌, ◌≤◌, length}
use Rattle.store_opening.specs.Walks.{TakesFront}
use Rattle.store_opening.proofs.walk.take_records.Given as goal

abbrev pub decreases-records : goal.decreases-records
decreases-records g l = length l.body - l.at

abbrev pub invariant-records : goal.invariant-records
invariant-records g l = TakesFront g.row.SLOTS l.body l.at l.initial.walk.replay l.walk.replay l.initial.walk.marks l.walk.marks × (l.at ≤ length l.body) × (l.walk.awaited.items ≡ l.walk.replay.skips)
    × (length l.walk.marks ≡ length l.walk.replay.skips)
