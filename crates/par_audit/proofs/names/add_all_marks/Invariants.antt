use Rattle.std.proofs.Common.{◌≡◌, ℕ, length, take}
use Rattle.std.specs.List.{list_any}
use Rattle.par_audit.specs.Marks.{is_marked}
use Rattle.par_audit.proofs.names.add_all_marks.Given as goal

abbrev pub invariant-loop-table : goal.invariant-loop-table
invariant-loop-table l = record {
  len : length l.sums ≡ length l.fn.sums;
  each : (id : ℕ) → is_marked l.sums id ≡ list_any (λ t. is_marked t.items id) (take l.table-index l.tables);
}
