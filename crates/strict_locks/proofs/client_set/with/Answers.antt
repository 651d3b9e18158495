use Rattle.strict_locks.proofs.ClientSetLaws.{has_bit-with}
use Rattle.strict_locks.proofs.client_set.with.Goals as goal

pub returns : goal.returns
returns c = λ i. has_bit-with c.args.word c.args.place i c.requires
