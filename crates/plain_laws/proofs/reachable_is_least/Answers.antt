use Rattle.plain_model.proofs.ReachableLaws.{Reachable-IsClosed}
use Rattle.plain_model.proofs.LawProofs.{Reachable-same_proof}
use Rattle.plain_laws.proofs.Reachability.{reachable-least_proof}
use Rattle.plain_laws.proofs.reachable_is_least.Goals as goal

pub returns-clause-closed : goal.returns-clause-closed
returns-clause-closed c = Reachable-IsClosed

pub returns-clause-least : goal.returns-clause-least
returns-clause-least c = reachable-least_proof

pub returns-clause-same : goal.returns-clause-same
returns-clause-same c = Reachable-same_proof
