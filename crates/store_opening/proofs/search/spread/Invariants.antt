use Rattle.std.proofs.Common.{ℕ, ◌<◌}
use Rattle.cell_model.specs.Strong.{IsStrongAt}
use Rattle.store_opening.specs.Marks.{IsMarked, Spreads, IsStrongTarget}
use Rattle.store_opening.proofs.search.spread.Given as goal

abbrev pub invariant-loop-slot : goal.invariant-loop-slot
invariant-loop-slot g l = record {
  spreads : Spreads (IsStrongTarget l.replay.cells l.id) l.initial.search.reached.items l.initial.search.work.items l.search.reached.items l.search.work.items;
  marked : (k to : ℕ) → k < l.slot → IsStrongAt l.replay.cells l.id k to → IsMarked l.search.reached.items to;
}
