use Rattle.std.proofs.Common.{◌≡◌, length}
use Rattle.audit_bench.proofs.made.spell_page.Given as goal

abbrev pub invariant-loop-place : goal.invariant-loop-place
invariant-loop-place l = length l.bytes ≡ 1024
