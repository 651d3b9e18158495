use Rattle.std.proofs.Common.{◌≡◌, ◌≤◌}
use Rattle.std.specs.Prelude.{count_by}
use Rattle.std.specs.List.{range_with_len}
use Rattle.par_audit.specs.Marks.{is_marked}
use Rattle.par_audit.proofs.garbage.garbage_in.Given as goal

abbrev pub invariant-loop-i : goal.invariant-loop-i
invariant-loop-i l = record {
  count : l.count ≡ count_by (is_marked l.unreached) (range_with_len 1 l.i);
  few : l.count ≤ l.i;
}
