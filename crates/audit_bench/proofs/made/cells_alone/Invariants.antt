use Rattle.std.proofs.Common.{◌≡◌, ◌+◌, length}
use Rattle.audit_bench.proofs.made.cells_alone.Given as goal

abbrev pub invariant-loop-i : goal.invariant-loop-i
invariant-loop-i l = length l.cells.items ≡ l.i + 1
