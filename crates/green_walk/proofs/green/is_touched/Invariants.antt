use Rattle.std.proofs.Common.{◌≡◌, ℕ, ◌<◌, false, slice_index}
use Rattle.ref_tables.specs.Queue.{has}
use Rattle.green_walk.proofs.green.is_touched.Given as goal

abbrev pub invariant-loop-place : goal.invariant-loop-place
invariant-loop-place g l = record {
  untouched : (k : ℕ) → k < l.place → has l.red.touched (slice_index l.red.list k) ≡ false;
}
