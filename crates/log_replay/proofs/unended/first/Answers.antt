use Rattle.log_replay.proofs.PlacedLaws.{first_is}
use Rattle.log_replay.proofs.unended.first.Goals as goal

pub returns-clause-some : goal.returns-clause-some
returns-clause-some c = first_is c.args.unended.now.entries c.in_ok-pass.pass c.in_ok-pass.transaction.now c.last.result c.in_ok-pass.ensures.some c.last.ensures.some c.last.ensures.none
