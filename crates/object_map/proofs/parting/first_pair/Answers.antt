use Rattle.object_map.proofs.AskLaws.{asks_then, out, falls_after}
use Rattle.object_map.proofs.parting.first_pair.Goals as goal

-- ---- refusals

pub returns-in_err-key-clause-refused : goal.returns-in_err-key-clause-refused
returns-in_err-key-clause-refused g c = out c.from_residual.result _ c.from_residual.ensures.1 c.in_err-key.ensures.refused

pub returns-in_err-read-clause-refused : goal.returns-in_err-read-clause-refused
returns-in_err-read-clause-refused g c = out c.from_residual-in_err-read.result _ c.from_residual-in_err-read.ensures.1 (falls_after c.in_ok-key.ensures.asks c.in_err-read.ensures.refused)

pub returns-in_err-value-clause-refused : goal.returns-in_err-value-clause-refused
returns-in_err-value-clause-refused g c = out c.from_residual-in_err-value.result _ c.from_residual-in_err-value.ensures.1 (falls_after c.in_ok-key.ensures.asks (falls_after c.in_ok-read.ensures.asks c.in_err-value.ensures.refused))

-- ---- the calls

pub returns-clause-asks : goal.returns-clause-asks
returns-clause-asks g c = asks_then c.in_ok-key.ensures.asks (asks_then c.in_ok-read.ensures.asks c.in_ok-value.ensures.asks)
