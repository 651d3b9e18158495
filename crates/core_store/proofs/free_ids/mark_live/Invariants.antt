use Rattle.core_store.proofs.OpeningCells.{AreMarked}
use Rattle.core_store.proofs.free_ids.mark_live.Given as goal

-- the first ids are marked
abbrev pub invariant-loop-place : goal.invariant-loop-place
invariant-loop-place g l = AreMarked l.cells l.fn.row.items l.row.items l.place
