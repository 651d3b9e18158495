use Rattle.std.proofs.Common.{◌≡◌, ℕ, ◌<◌, length, take}
use Rattle.std.specs.Prelude.{slice_index, sum_by}
use Rattle.par_audit.specs.Tables.{count_in}
use Rattle.par_audit.proofs.tables.add_tables.Given as goal

abbrev pub invariant-loop-table : goal.invariant-loop-table
invariant-loop-table l = record {
  len : length l.sums ≡ length l.fn.sums;
  each : (id : ℕ) → id < length l.fn.sums → slice_index l.sums id ≡ sum_by (λ t. count_in t id l.bit) (take l.table-index l.tables);
}
