use Rattle.strict_locks.proofs.ClientSetLaws.{remove_low, remove_high}
use Rattle.strict_locks.proofs.client_set.ClientSet.remove.Goals as goal

pub returns-then-client-lt128 : goal.returns-then-client-lt128
returns-then-client-lt128 c = remove_low c.args.self.now c.without-self.result c.args.client c.if-client-lt128.true c.without-self.ensures

pub returns-else-client-lt128 : goal.returns-else-client-lt128
returns-else-client-lt128 c = remove_high c.args.self.now c.without-self-else-client-lt128.result c.args.client c.if-client-lt128.false c.ranges.client.fits c.without-self-else-client-lt128.ensures
