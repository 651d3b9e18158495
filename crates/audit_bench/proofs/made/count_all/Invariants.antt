use Rattle.std.proofs.Common.{◌≡◌, length}
use Rattle.audit_bench.proofs.made.count_all.Given as goal

abbrev pub invariant-loop-id : goal.invariant-loop-id
invariant-loop-id l = length l.cells ≡ length l.fn.cells
