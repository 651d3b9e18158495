use Rattle.std.proofs.Common.{◌≡◌, ◌+◌, ◌*◌, ◌<◌, ℕ, length, slice_index_or}
use Rattle.par_audit.specs.Marks.{has_bit, has_id}
use Rattle.par_audit.proofs.marks.pack.Given as goal

abbrev pub invariant-loop-at : goal.invariant-loop-at
invariant-loop-at l = record {
  len : length l.words ≡ length l.fn.words;
  done : (k : ℕ) → k < l.at → (bit : ℕ) → bit < 64 → has_bit (slice_index_or l.words k 0) bit ≡ has_id l.table (64 * k + bit);
}
