use Rattle.std.proofs.Common.{◌≡◌, ◌+◌, ◌*◌, ◌<◌, ◌≤◌, ℕ, false}
use Rattle.par_audit.specs.Marks.{has_bit, has_id}
use Rattle.par_audit.proofs.marks.packed.Given as goal

abbrev pub invariant-loop-bit : goal.invariant-loop-bit
invariant-loop-bit l = record {
  done : (bit : ℕ) → bit < l.bit → has_bit l.word bit ≡ has_id l.table (64 * l.at + bit);
  rest : (bit : ℕ) → l.bit ≤ bit → has_bit l.word bit ≡ false;
}
