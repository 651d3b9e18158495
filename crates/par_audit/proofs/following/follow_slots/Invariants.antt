use Rattle.std.proofs.Common.{take}
use Rattle.par_audit.specs.Marks.{Follows, is_in}
use Rattle.par_audit.proofs.following.follow_slots.Given as goal

abbrev pub invariant-loop-target : goal.invariant-loop-target
invariant-loop-target l = Follows (is_in (take l.target-index l.slots)) l.fn.unreached l.unreached l.fn.found.items l.found.items
