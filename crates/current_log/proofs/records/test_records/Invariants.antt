use Rattle.std.proofs.Common.{◌-◌, ◌≤◌, ℕ, List, length}
use Rattle.restart_laws.specs.Unended.{Unended}
use Rattle.current_log.specs.Tested.{IsTesting, FitsFront}
use Rattle.current_log.proofs.records.test_records.Given as goal

abbrev pub decreases-records : goal.decreases-records
decreases-records g l = length l.body - l.at

abbrev pub invariant-records : goal.invariant-records
invariant-records g l = ((us : List (ℕ × Unended)) → IsTesting l.fn.pages us l.initial.replay → FitsFront g.row.SLOTS l.fn.pages us l.body l.at l.replay) × (l.at ≤ length l.body)
