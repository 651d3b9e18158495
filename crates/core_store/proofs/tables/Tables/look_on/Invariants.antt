use Rattle.core_store.specs.RoundView.{left_of}
use Rattle.core_store.specs.Views.{view_of}
use Rattle.core_store.specs.Passed.{HasPassed}
use Rattle.core_store.proofs.tables.Tables.look_on.Given as goal

-- slots were looked at, and nothing else changed
abbrev pub invariant-looks : goal.invariant-looks
invariant-looks g l = HasPassed g.row.SLOTS (view_of l.initial.self) (view_of l.self) l.held

abbrev pub decreases-looks : goal.decreases-looks
decreases-looks g l = left_of g.row.SLOTS l.self.round.view
