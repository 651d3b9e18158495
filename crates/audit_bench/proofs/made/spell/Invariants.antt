use Rattle.std.proofs.Common.{◌≡◌, length}
use Rattle.audit_bench.proofs.made.spell.Given as goal

abbrev pub invariant-loop-slot : goal.invariant-loop-slot
invariant-loop-slot l = length l.bytes ≡ 128
