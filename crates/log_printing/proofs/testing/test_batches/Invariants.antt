use Rattle.std.proofs.Common.{ℕ, ◌-◌, ◌≤◌, length}
use Rattle.log_printing.specs.Testing.{HasRead}
use Rattle.log_printing.proofs.testing.test_batches.Given as goal

abbrev pub decreases-batches : goal.decreases-batches
decreases-batches g l = length l.area - l.at

abbrev pub invariant-batches : goal.invariant-batches
invariant-batches g l =
    (l.at ≤ length l.area) × ((pages : ℕ) → HasRead g.row.SLOTS pages l.area l.first l.initial.fitting → HasRead g.row.SLOTS pages l.area l.at l.fitting)
