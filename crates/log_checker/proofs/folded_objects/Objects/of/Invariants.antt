use Rattle.std.proofs.Common.{◌≡◌, ◌+◌, map, take}
use Rattle.cell_page.specs.Stored.{cell_of}
use Rattle.log_checker.proofs.folded_objects.Objects.of.Given as goal

abbrev pub invariant-loop-i : goal.invariant-loop-i
invariant-loop-i g l = map cell_of l.cells.items ≡ take (l.i + 1) l.replay.cells
