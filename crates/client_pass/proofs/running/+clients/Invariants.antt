use Rattle.std.proofs.Common.{◌+◌, ◌*◌, length}
use Rattle.client_pass.proofs.running.+clients.Given as goal

abbrev pub decreases-run_first-join_mut+arg2 : goal.decreases-run_first-join_mut+arg2
decreases-run_first-join_mut+arg2 g l = 2 * length l.others.now

abbrev pub decreases-run_first : goal.decreases-run_first
decreases-run_first g l = 2 * length l.others.now + 1

abbrev pub decreases-run_beside : goal.decreases-run_beside
decreases-run_beside g l = 2 * length l.scripts.now
