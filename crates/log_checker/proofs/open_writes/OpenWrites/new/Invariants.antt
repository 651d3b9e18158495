use Rattle.std.proofs.Common.{◌≡◌, [], replicate}
use Rattle.log_checker.proofs.open_writes.OpenWrites.new.Given as goal

abbrev pub invariant-loop-client : goal.invariant-loop-client
invariant-loop-client l = l.rows.items ≡ replicate l.client []
