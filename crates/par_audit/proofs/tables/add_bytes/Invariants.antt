use Rattle.std.proofs.Common.{◌≡◌, ℕ, ◌<◌, ◌≤◌, ◌+◌, length}
use Rattle.std.specs.Prelude.{slice_index}
use Rattle.par_audit.specs.Tables.{place_of}
use Rattle.par_audit.proofs.tables.add_bytes.Given as goal

abbrev pub invariant-loop-i : goal.invariant-loop-i
invariant-loop-i l = record {
  len : length l.sums ≡ length l.fn.sums;
  done : (id : ℕ) → id < l.i → slice_index l.sums id ≡ slice_index l.fn.sums id + slice_index l.bytes (place_of id l.bit);
  rest : (id : ℕ) → l.i ≤ id → slice_index l.sums id ≡ slice_index l.fn.sums id;
}
