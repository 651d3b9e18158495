use Rattle.plain_map.proofs.BetweenLaws.{between-next_proof, between-past_proof, between-none_proof}
use Rattle.plain_map.proofs.pairs_between_are_next_pairs.Goals as goal

pub returns-clause-next : goal.returns-clause-next
returns-clause-next c = between-next_proof

pub returns-clause-past : goal.returns-clause-past
returns-clause-past c = between-past_proof

pub returns-clause-none : goal.returns-clause-none
returns-clause-none c = between-none_proof
