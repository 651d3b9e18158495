use Rattle.std.proofs.Common.{◌≡◌, map, take}
use Rattle.cell_page.specs.Stored.{cell_of}
use Rattle.core_store.specs.Opening.{store_of}
use Rattle.auditor.proofs.replay.copied.Given as goal

abbrev pub invariant-loop-cell : goal.invariant-loop-cell
invariant-loop-cell g l = map cell_of l.cells.items ≡ store_of (take l.cell-index l.opening)
