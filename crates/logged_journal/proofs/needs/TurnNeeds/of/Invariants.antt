use Rattle.std.proofs.Common.{◌≡◌, ◌≤◌, length}
use Rattle.logged_journal.specs.Checkpoints.{changed_below, wanted_below}
use Rattle.logged_journal.proofs.needs.TurnNeeds.of.Given as goal

abbrev pub invariant-loop-page : goal.invariant-loop-page
invariant-loop-page l = (l.changed ≡ length (changed_below l.marks l.page)) × (l.images ≡ length (wanted_below l.marks l.page)) × (l.changed ≤ l.page) × (l.images ≤ l.changed)
