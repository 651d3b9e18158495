use Rattle.std.proofs.Common.{arith}
use Rattle.object_map.proofs.AskLaws.{at_most, asks_then, asks_within, out, falls_after}
use Rattle.object_map.proofs.parting.turn.Goals as goal

-- ---- refusals

pub returns-in_err-read-clause-refused : goal.returns-in_err-read-clause-refused
returns-in_err-read-clause-refused g c = out c.from_residual.result _ c.from_residual.ensures.1 c.in_err-read.ensures.refused

pub returns-in_err-read-2-clause-refused : goal.returns-in_err-read-2-clause-refused
returns-in_err-read-2-clause-refused g c = out c.from_residual-in_err-read-2.result _ c.from_residual-in_err-read-2.ensures.1 (falls_after c.in_ok-read.ensures.asks c.in_err-read-2.ensures.refused)

pub returns-in_err-read-3-clause-refused : goal.returns-in_err-read-3-clause-refused
returns-in_err-read-3-clause-refused g c = out c.from_residual-in_err-read-3.result _ c.from_residual-in_err-read-3.ensures.1 (falls_after c.in_ok-read.ensures.asks (falls_after c.in_ok-read-2.ensures.asks c.in_err-read-3.ensures.refused))

-- ---- the calls

pub returns-then-side-ne0-clause-asks : goal.returns-then-side-ne0-clause-asks
returns-then-side-ne0-clause-asks g c = asks_within (at_most 2 3 (omega arith)) (asks_then c.in_ok-read.ensures.asks c.in_ok-read-2.ensures.asks)

pub returns-clause-asks : goal.returns-clause-asks
returns-clause-asks g c = asks_then c.in_ok-read.ensures.asks (asks_then c.in_ok-read-2.ensures.asks c.in_ok-read-3.ensures.asks)
