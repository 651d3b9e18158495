use Rattle.std.proofs.Common.{◌-◌, ◌≤◌, length}
use Rattle.log_printing.specs.Testing.{TakesFront}
use Rattle.log_printing.proofs.testing.test_body.Given as goal

abbrev pub decreases-records : goal.decreases-records
decreases-records g l = length l.body - l.at

abbrev pub invariant-records : goal.invariant-records
invariant-records g l = TakesFront g.row.SLOTS l.body l.at l.initial.fitting l.fitting × (l.at ≤ length l.body)
