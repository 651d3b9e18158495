use Rattle.std.proofs.Common.{◌≡◌, map, take}
use Rattle.core_store.specs.Changes.{has_no_strong}
use Rattle.core_store.specs.Opening.{store_of}
use Rattle.core_store.proofs.opening.zeros.Given as goal

-- the marks of the first cells
abbrev pub invariant-loop-cell : goal.invariant-loop-cell
invariant-loop-cell g l = l.zeros.items ≡ map has_no_strong (store_of (take l.cell-index l.cells))
