use Rattle.std.proofs.Common.{ℕ, ◌<◌}
use Rattle.store_opening.specs.Kept.{NamesLiveAt}
use Rattle.store_opening.proofs.names.names_none.Given as goal

abbrev pub invariant-loop-slot : goal.invariant-loop-slot
invariant-loop-slot g l = (k : ℕ) → k < l.slot → NamesLiveAt l.replay.cells l.id k
