use Rattle.strict_locks.proofs.ClientSetLaws.{in_new}
use Rattle.strict_locks.proofs.client_set.ClientSet.new.Goals as goal

pub returns : goal.returns
returns c = in_new
