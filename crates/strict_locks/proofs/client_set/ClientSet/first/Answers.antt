use Rattle.strict_locks.proofs.ClientSetLaws.{first_low, first_high, first_none}
use Rattle.strict_locks.proofs.client_set.ClientSet.first.Goals as goal

pub returns-in_err-lowest-in-None : goal.returns-in_err-lowest-in-None
returns-in_err-lowest-in-None c = rw c.from_residual.ensures (first_none c.args.self.now c.in-None.ensures c.in_err-lowest-in-None.ensures)

pub returns-in-Some : goal.returns-in-Some
returns-in-Some c = first_low c.args.self.now c.in-Some.client c.in-Some.ensures

pub returns-in_ok-lowest-in-None : goal.returns-in_ok-lowest-in-None
returns-in_ok-lowest-in-None c = first_high c.args.self.now c.in_ok-lowest-in-None.field-0 c.in-None.ensures c.in_ok-lowest-in-None.ensures
