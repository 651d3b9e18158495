use Rattle.plain_model.specs.History.{end_of, left_to_undo}
use Rattle.stored_map.proofs.AbortLaws.{StandsBack}
use Rattle.stored_map.proofs.asking.abort.Given as goal

abbrev pub invariant-steps : goal.invariant-steps
invariant-steps g l = record { stands : StandsBack l.fn.store l.store }

-- each step undoes a write
abbrev pub decreases-steps : goal.decreases-steps
decreases-steps g l = left_to_undo (end_of l.store.journal.history) 1
