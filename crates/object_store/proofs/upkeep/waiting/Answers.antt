use Rattle.object_store.proofs.CollectLaws.{exact_of}
use Rattle.object_store.proofs.upkeep.waiting.Goals as goal

pub returns-clause-exact : goal.returns-clause-exact
returns-clause-exact g c = exact_of c.args.below.now c.logged.result.now c.journal.result.now c.queue_len.result c.logged.ensures.logged c.journal.ensures.journal c.queue_len.ensures.rest
