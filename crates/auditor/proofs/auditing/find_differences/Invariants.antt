use Rattle.std.proofs.Common.{◌≡◌, map}
use Rattle.std.specs.List.{range_with_len, flat_map}
use Rattle.cell_page.specs.Stored.{cell_of}
use Rattle.auditor.specs.Recount.{difference_at}
use Rattle.auditor.proofs.auditing.find_differences.Given as goal

abbrev pub invariant-loop-i : goal.invariant-loop-i
invariant-loop-i g l = l.list.items ≡ flat_map (difference_at (map cell_of l.cells) l.frames) (range_with_len 1 l.i)
