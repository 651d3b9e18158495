use Rattle.plain_map.proofs.ChangeLaws.{value-with_proof, value-with_other_proof, value-without_proof, value-without_other_proof}
use Rattle.plain_map.proofs.keys_have_their_values.Goals as goal

pub returns-clause-given : goal.returns-clause-given
returns-clause-given c = value-with_proof

pub returns-clause-beside : goal.returns-clause-beside
returns-clause-beside c = value-with_other_proof

pub returns-clause-taken : goal.returns-clause-taken
returns-clause-taken c = value-without_proof

pub returns-clause-left : goal.returns-clause-left
returns-clause-left c = value-without_other_proof
