use Rattle.stored_map.specs.Stores.{IsQuiet}
use Rattle.stored_map.specs.Steps.{Collects, entries_left}
use Rattle.stored_map.proofs.collecting.collect.Given as goal

abbrev pub invariant-steps : goal.invariant-steps
invariant-steps g l = record { quiet : IsQuiet l.store; collects : Collects l.fn.store l.store }

-- each event takes an entry of the history's room
abbrev pub decreases-steps : goal.decreases-steps
decreases-steps g l = entries_left l.store
