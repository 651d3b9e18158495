use Rattle.strict_locks.proofs.RowLaws.{HaveGrown-push}
use Rattle.strict_locks.proofs.rows.make.Goals as goal

pub loop-preserved : goal.loop-preserved
loop-preserved c = HaveGrown-push c.args.places.now.items c.loop.places.items c.push.new.self.items c.loop.counter c.args.id c.in_ok-push.ensures.items c.loop-test.true c.ranges.id.fits c.loop.invariant
