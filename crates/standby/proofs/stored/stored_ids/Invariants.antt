use Rattle.std.proofs.Common.{◌≡◌, ◌+◌}
use Rattle.standby.proofs.StoredLaws.{live_below}
use Rattle.standby.proofs.stored.stored_ids.Given as goal

abbrev pub invariant-loop-i : goal.invariant-loop-i
invariant-loop-i g l = l.stored.items ≡ live_below l.replay.cells (l.i + 1)
