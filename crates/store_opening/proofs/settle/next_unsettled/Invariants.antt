use Rattle.std.proofs.Common.{ℕ, ◌<◌}
use Rattle.cell_model.specs.Strong.{IsStrongAt}
use Rattle.store_opening.specs.Marks.{IsMarked}
use Rattle.store_opening.proofs.settle.next_unsettled.Given as goal

abbrev pub invariant-loop-slot : goal.invariant-loop-slot
invariant-loop-slot g l = (k to : ℕ) → k < l.slot → IsStrongAt l.replay.cells l.id k to → IsMarked l.settled to
