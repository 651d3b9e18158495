use Rattle.std.proofs.Common.{◌≡◌, ◌≤◌, length}
use Rattle.audit_bench.proofs.plain.follow.Given as goal

abbrev pub invariant-loop-target : goal.invariant-loop-target
invariant-loop-target l = record {
  len : length l.marks ≡ length l.fn.marks;
  listed : length l.fn.listed.items ≤ length l.listed.items;
}
