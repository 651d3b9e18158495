use Rattle.strict_locks.proofs.ClientSetLaws.{has_bit-without}
use Rattle.strict_locks.proofs.client_set.without.Goals as goal

pub returns : goal.returns
returns c = λ i below. has_bit-without c.args.word c.args.place i c.requires below
