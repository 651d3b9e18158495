use Rattle.strict_locks.proofs.HeldLaws.{distinct-none}
use Rattle.strict_locks.proofs.clients.list.Goals as goal

pub returns-in-None-clause-once : goal.returns-in-None-clause-once
returns-in-None-clause-once c = distinct-none
