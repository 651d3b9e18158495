use Rattle.plain_map.proofs.ChangeLaws.{ascend-with_proof, ascend-without_proof}
use Rattle.plain_map.proofs.keys_ascend.Goals as goal

pub returns-clause-with : goal.returns-clause-with
returns-clause-with c = ascend-with_proof

pub returns-clause-without : goal.returns-clause-without
returns-clause-without c = ascend-without_proof
