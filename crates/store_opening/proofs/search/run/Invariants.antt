use Rattle.std.proofs.Common.{◌+◌, length}
use Rattle.store_opening.specs.Marks.{IsSearching, unmarked}
use Rattle.store_opening.proofs.search.run.Given as goal

abbrev pub invariant-loop-at : goal.invariant-loop-at
invariant-loop-at g l = IsSearching l.replay.cells l.id l.search.reached.items l.search.work.items

abbrev pub decreases-loop-at : goal.decreases-loop-at
decreases-loop-at g l = unmarked l.search.reached.items + length l.search.work.items
