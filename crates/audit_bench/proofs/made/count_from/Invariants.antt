use Rattle.std.proofs.Common.{◌≡◌, length}
use Rattle.audit_bench.proofs.made.count_from.Given as goal

abbrev pub invariant-loop-slot : goal.invariant-loop-slot
invariant-loop-slot l = length l.cells ≡ length l.fn.cells
