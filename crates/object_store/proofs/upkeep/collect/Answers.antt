use Rattle.object_store.proofs.UpkeepLaws.{some_reach}
use Rattle.object_store.proofs.upkeep.collect.Goals as goal

pub returns-clause-reach : goal.returns-clause-reach
returns-clause-reach g c =
    some_reach c.args.steps c.args.below.now c.collect_some-left.new.below c.collect_some-left.result c.collect_some-left.ensures.makes c.collect_some-left.ensures.short c.know.ensures.settled c.know-2.ensures.settled
