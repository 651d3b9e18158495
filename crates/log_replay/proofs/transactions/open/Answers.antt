use Rattle.log_replay.proofs.RowLaws.{HaveMade-push}
use Rattle.log_replay.proofs.transactions.open.Goals as goal

pub loop-preserved : goal.loop-preserved
loop-preserved c = HaveMade-push c.args.rows.now.items c.loop.rows.items c.push.new.self.items c.loop.counter c.args.pass c.in_ok-push.ensures.items c.loop-test.true c.ranges.pass.fits c.loop.invariant
