use Rattle.std.proofs.Common.{◌≡◌, ℕ, ◌<◌, ◌≤◌, length, bit_or, slice_index_or}
use Rattle.par_audit.proofs.marks.add_marks.Given as goal

abbrev pub invariant-loop-at : goal.invariant-loop-at
invariant-loop-at l = record {
  len : length l.words ≡ length l.fn.words;
  done : (k : ℕ) → k < l.at → slice_index_or l.words k 0 ≡ bit_or (slice_index_or l.fn.words k 0) (slice_index_or l.others k 0);
  rest : (k : ℕ) → l.at ≤ k → slice_index_or l.words k 0 ≡ slice_index_or l.fn.words k 0;
}
