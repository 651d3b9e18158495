use Rattle.std.proofs.Common.{◌≡◌, ℕ, ◌<◌, ◌+◌, ◌*◌, ◌==◌, length, take}
use Rattle.std.specs.Prelude.{slice_index, count_by}
use Rattle.par_audit.specs.Tables.{place_of}
use Rattle.par_audit.proofs.tables.add_carries.Given as goal

abbrev pub invariant-loop-place : goal.invariant-loop-place
invariant-loop-place l = record {
  len : length l.sums ≡ length l.fn.sums;
  each : (id : ℕ) → id < length l.fn.sums → slice_index l.sums id ≡ slice_index l.fn.sums id + 256 * count_by (λ p. p == place_of id l.bit) (take l.place-index l.carries);
}
