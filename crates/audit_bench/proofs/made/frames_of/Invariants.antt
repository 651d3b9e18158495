use Rattle.std.proofs.Common.{◌≡◌, length}
use Rattle.auditor.specs.Recount.{ArePages}
use Rattle.audit_bench.proofs.made.frames_of.Given as goal

abbrev pub invariant-loop-number : goal.invariant-loop-number
invariant-loop-number l = record {
  pages : ArePages l.frames.items;
  len : length l.frames.items ≡ l.number;
}
