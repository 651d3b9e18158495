use Rattle.quiet_rounds.proofs.Collections.{rounds-made, queue, rest}
use Rattle.quiet_rounds.proofs.quiet_collections_use_up_the_queue.Goals as goal

pub returns-clause-rounds : goal.returns-clause-rounds
returns-clause-rounds c = rounds-made

pub returns-clause-queue : goal.returns-clause-queue
returns-clause-queue c = queue

pub returns-clause-rest : goal.returns-clause-rest
returns-clause-rest c = rest
