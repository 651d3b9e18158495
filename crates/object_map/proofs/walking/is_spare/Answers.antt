use Rattle.std.proofs.Common.{◌≤◌, sym, ◌∙◌, arith}
use Rattle.object_map.proofs.LookLaws.{zero_test, some_test}
use Rattle.object_map.proofs.AskLaws.{asks_none, asks_within, out}
use Rattle.object_map.proofs.WalkLaws.{scans_none, scans_once}
use Rattle.object_map.proofs.walking.is_spare.Goals as goal

pub returns-then-slot-a-clause-scans : goal.returns-then-slot-a-clause-scans
returns-then-slot-a-clause-scans g c = scans_none c.args.client.now

pub returns-then-slot-b-clause-scans : goal.returns-then-slot-b-clause-scans
returns-then-slot-b-clause-scans g c = scans_none c.args.client.now

pub returns-clause-null : goal.returns-clause-null
returns-clause-null g c = λ e n m. sym c.in_ok-id.ensures.ok ∙ zero_test c.in_ok-id.id e

pub returns-clause-other : goal.returns-clause-other
returns-clause-other g c = λ e. (c.if-slot-a.false, c.if-slot-b.false, (λ z. some_test c.in_ok-id.id e (c.in_ok-id.ensures.ok ∙ z)))

pub returns-clause-scans : goal.returns-clause-scans
returns-clause-scans g c = scans_once c.in_ok-id.ensures.asks c.in_ok-id.ensures.loads

pub returns-in_err-id-clause-refused : goal.returns-in_err-id-clause-refused
returns-in_err-id-clause-refused g c = out c.from_residual.result _ c.from_residual.ensures.1 c.in_err-id.ensures.refused

pub returns-then-slot-a-clause-asks : goal.returns-then-slot-a-clause-asks
returns-then-slot-a-clause-asks g c = (let few : 0 ≤ 1 = omega arith in asks_within few (asks_none c.args.client.now))

pub returns-then-slot-b-clause-asks : goal.returns-then-slot-b-clause-asks
returns-then-slot-b-clause-asks g c = (let few : 0 ≤ 1 = omega arith in asks_within few (asks_none c.args.client.now))
