use Rattle.std.proofs.Common.{◌≡◌, ◌≤◌, map}
use Rattle.std.specs.List.{range_with_len}
use Rattle.cell_page.specs.Stored.{cell_of}
use Rattle.auditor.specs.Recount.{zero_in}
use Rattle.auditor.proofs.auditing.zero_in.Given as goal

abbrev pub invariant-loop-i : goal.invariant-loop-i
invariant-loop-i g l = record {
  count : l.count ≡ zero_in (map cell_of l.cells) (range_with_len 1 l.i);
  few : l.count ≤ l.i;
}
