use Rattle.std.proofs.Common.{◌-◌, take, drop}
use Rattle.par_audit.specs.Marks.{Follows, is_named}
use Rattle.par_audit.proofs.following.follow_in_turn.Given as goal

abbrev pub invariant-loop-i : goal.invariant-loop-i
invariant-loop-i g l = Follows (is_named l.cells (take (l.i - l.from) (drop l.from l.fn.found.items))) l.fn.unreached l.unreached l.fn.found.items l.found.items
