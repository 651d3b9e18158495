use Rattle.std.proofs.Common.{◌≤◌, ◌+◌, sym, ◌∙◌, arith}
use Rattle.object_map.specs.Clients.{seen}
use Rattle.object_map.specs.Seen.{at, held_id}
use Rattle.object_map.specs.Walking.{Scans}
use Rattle.object_map.specs.Broken.BreaksInner.{lacks, points}
use Rattle.object_map.proofs.LookLaws.{same_slot, still_held, inner_is, no_low_side, no_high_side, no_other_side}
use Rattle.object_map.proofs.AskLaws.{asks_then, asks_within, out}
use Rattle.object_map.proofs.WalkLaws.{scans_then, scans_once, falls_looked}
use Rattle.object_map.proofs.walking.sides.Goals as goal

pub returns-then-low-eq0-clause-none : goal.returns-then-low-eq0-clause-none
returns-then-low-eq0-clause-none g c = λ e bit low high i. no_low_side (at (seen c.args.client.now) (held_id (seen c.args.client.now) 1)) c.in_ok-low.low bit low high c.in_ok-low.ensures.ok c.if-low-eq0.true i

pub returns-then-low-eq0-clause-scans : goal.returns-then-low-eq0-clause-scans
returns-then-low-eq0-clause-scans g c = scans_once c.in_ok-low.ensures.asks c.in_ok-low.ensures.loads

pub read-requires-2-clause-full : goal.read-requires-2-clause-full
read-requires-2-clause-full g c κs within = still_held (seen c.args.client.now) (seen c.read.new.self) 1 (c.in_ok-low.ensures.loads.others 1 (λ z. absurd (omega (arith, z)))) c.requires.full

pub returns-then-high-eq0-clause-none : goal.returns-then-high-eq0-clause-none
returns-then-high-eq0-clause-none g c = λ e bit low high i. no_high_side (seen c.args.client.now) (seen c.read.new.self) 1 c.in_ok-high.high bit low high c.in_ok-low.ensures.loads.graph (c.in_ok-low.ensures.loads.others 1 (λ z. absurd (omega (arith, z)))) c.in_ok-high.ensures.ok c.if-high-eq0.true i

pub returns-then-high-eq0-clause-scans : goal.returns-then-high-eq0-clause-scans
returns-then-high-eq0-clause-scans g c = scans_then (scans_once c.in_ok-low.ensures.asks c.in_ok-low.ensures.loads) (scans_once c.in_ok-high.ensures.asks c.in_ok-high.ensures.loads)

pub has_only-requires-clause-full : goal.has_only-requires-clause-full
has_only-requires-clause-full g c κs within =
    let s : Scans c.args.client.now c.read-2.new.self = scans_then (scans_once c.in_ok-low.ensures.asks c.in_ok-low.ensures.loads) (scans_once c.in_ok-high.ensures.asks c.in_ok-high.ensures.loads) in
    still_held (seen c.args.client.now) (seen c.read-2.new.self) 1 (s.others 1 (λ z. absurd (omega (arith, z)))) c.requires.full

pub returns-then-not-branch-clause-none : goal.returns-then-not-branch-clause-none
returns-then-not-branch-clause-none g c = λ e bit low high i.
    let s : Scans c.args.client.now c.read-2.new.self = scans_then (scans_once c.in_ok-low.ensures.asks c.in_ok-low.ensures.loads) (scans_once c.in_ok-high.ensures.asks c.in_ok-high.ensures.loads) in
    let t = c.in_ok-has_only.ensures.other c.if-not-branch.true in
    no_other_side (seen c.args.client.now) (seen c.read-2.new.self) 1 t.0 bit low high s.look.graph (s.others 1 (λ z. absurd (omega (arith, z)))) t.1.0 t.1.1 t.1.2 i

pub returns-then-not-branch-clause-scans : goal.returns-then-not-branch-clause-scans
returns-then-not-branch-clause-scans g c = scans_then (scans_then (scans_once c.in_ok-low.ensures.asks c.in_ok-low.ensures.loads) (scans_once c.in_ok-high.ensures.asks c.in_ok-high.ensures.loads)) c.in_ok-has_only.ensures.scans

pub returns-clause-inner : goal.returns-clause-inner
returns-clause-inner g c =
    let s : Scans c.args.client.now c.read-2.new.self = scans_then (scans_once c.in_ok-low.ensures.asks c.in_ok-low.ensures.loads) (scans_once c.in_ok-high.ensures.asks c.in_ok-high.ensures.loads) in
    inner_is (seen c.args.client.now) (seen c.read.new.self) (seen c.read-2.new.self) 1 c.in_ok-low.low c.in_ok-high.high c.in_ok-low.ensures.loads.graph (c.in_ok-low.ensures.loads.others 1 (λ z. absurd (omega (arith, z)))) s.look.graph (s.others 1 (λ z. absurd (omega (arith, z))))
    c.in_ok-low.ensures.ok c.if-low-eq0.false c.in_ok-high.ensures.ok c.if-high-eq0.false (c.in_ok-has_only.ensures.null c.if-not-branch.false)

pub returns-clause-scans : goal.returns-clause-scans
returns-clause-scans g c = scans_then (scans_then (scans_once c.in_ok-low.ensures.asks c.in_ok-low.ensures.loads) (scans_once c.in_ok-high.ensures.asks c.in_ok-high.ensures.loads)) c.in_ok-has_only.ensures.scans

pub returns-in_err-low-clause-refused : goal.returns-in_err-low-clause-refused
returns-in_err-low-clause-refused g c = out c.from_residual.result _ c.from_residual.ensures.1 c.in_err-low.ensures.refused

pub returns-in_err-high-clause-refused : goal.returns-in_err-high-clause-refused
returns-in_err-high-clause-refused g c = out c.from_residual-in_err-high.result _ c.from_residual-in_err-high.ensures.1 (falls_looked (scans_once c.in_ok-low.ensures.asks c.in_ok-low.ensures.loads).look c.in_err-high.ensures.refused)

pub returns-in_err-has_only-clause-refused : goal.returns-in_err-has_only-clause-refused
returns-in_err-has_only-clause-refused g c = out c.from_residual-in_err-has_only.result _ c.from_residual-in_err-has_only.ensures.1 (falls_looked (scans_then (scans_once c.in_ok-low.ensures.asks c.in_ok-low.ensures.loads) (scans_once c.in_ok-high.ensures.asks c.in_ok-high.ensures.loads)).look c.in_err-has_only.ensures.refused)

-- ---- what is wrong with an object that is no inner one

pub returns-then-low-eq0-clause-broken : goal.returns-then-low-eq0-clause-broken
returns-then-low-eq0-clause-broken g c = λ e bit. lacks 0 (omega arith) (sym c.in_ok-low.ensures.ok ∙ c.if-low-eq0.true)

pub returns-then-high-eq0-clause-broken : goal.returns-then-high-eq0-clause-broken
returns-then-high-eq0-clause-broken g c = λ e bit.
    lacks 1 (omega arith) (sym (same_slot (seen c.args.client.now) (seen c.read.new.self) 1 1 c.in_ok-low.ensures.loads.graph (c.in_ok-low.ensures.loads.others 1 (λ z. absurd (omega (arith, z))))) ∙ sym c.in_ok-high.ensures.ok ∙ c.if-high-eq0.true)

pub returns-then-not-branch-clause-broken : goal.returns-then-not-branch-clause-broken
returns-then-not-branch-clause-broken g c = λ e bit.
    let s : Scans c.args.client.now c.read-2.new.self = scans_then (scans_once c.in_ok-low.ensures.asks c.in_ok-low.ensures.loads) (scans_once c.in_ok-high.ensures.asks c.in_ok-high.ensures.loads) in
    let t = c.in_ok-has_only.ensures.other c.if-not-branch.true in
    points t.0 t.1.0 t.1.1 (λ z. t.1.2 (same_slot (seen c.args.client.now) (seen c.read-2.new.self) 1 t.0 s.look.graph (s.others 1 (λ z. absurd (omega (arith, z)))) ∙ z))

-- ---- how many calls

pub returns-then-low-eq0-clause-asks : goal.returns-then-low-eq0-clause-asks
returns-then-low-eq0-clause-asks g c = (let few : 1 ≤ 16 = omega arith in asks_within few c.in_ok-low.ensures.asks)

pub returns-then-high-eq0-clause-asks : goal.returns-then-high-eq0-clause-asks
returns-then-high-eq0-clause-asks g c = (let few : 1 + 1 ≤ 16 = omega arith in asks_within few (asks_then c.in_ok-low.ensures.asks c.in_ok-high.ensures.asks))

pub returns-then-not-branch-clause-asks : goal.returns-then-not-branch-clause-asks
returns-then-not-branch-clause-asks g c = asks_then c.in_ok-low.ensures.asks (asks_then c.in_ok-high.ensures.asks c.in_ok-has_only.ensures.asks)

pub returns-clause-asks : goal.returns-clause-asks
returns-clause-asks g c = asks_then c.in_ok-low.ensures.asks (asks_then c.in_ok-high.ensures.asks c.in_ok-has_only.ensures.asks)
