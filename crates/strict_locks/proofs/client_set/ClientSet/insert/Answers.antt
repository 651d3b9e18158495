use Rattle.strict_locks.proofs.ClientSetLaws.{insert_low, insert_high}
use Rattle.strict_locks.proofs.client_set.ClientSet.insert.Goals as goal

pub returns-then-client-lt128 : goal.returns-then-client-lt128
returns-then-client-lt128 c = insert_low c.args.self.now c.with-self.result c.args.client c.if-client-lt128.true c.with-self.ensures

pub returns-else-client-lt128 : goal.returns-else-client-lt128
returns-else-client-lt128 c = insert_high c.args.self.now c.with-self-else-client-lt128.result c.args.client c.if-client-lt128.false c.ranges.client.fits c.with-self-else-client-lt128.ensures
