use Rattle.std.proofs.Common.{◌≡◌, ◌≤◌, map, take}
use Rattle.cell_page.specs.Stored.{cell_of}
use Rattle.auditor.specs.Recount.{live_in}
use Rattle.auditor.proofs.auditing.live_in.Given as goal

abbrev pub invariant-loop-cell : goal.invariant-loop-cell
invariant-loop-cell g l = record {
  count : l.count ≡ live_in (map cell_of (take l.cell-index l.cells));
  few : l.count ≤ l.cell-index;
}
