use Rattle.std.proofs.Common.{◌≤◌, ◌+◌, ◌∙◌, arith}
use Rattle.object_map.specs.Clients.{seen}
use Rattle.object_map.proofs.AskLaws.{asks_then, asks_within, out, falls_after, never_full}
use Rattle.object_map.proofs.WayLaws.{held_some}
use Rattle.object_map.proofs.GetLaws.{HoldsMap, holds_map, holds_tree, cell_here, value_missing, value_found}
use Rattle.object_map.proofs.getting.ObjectMap.get.Goals as goal

pub descend-requires-clause-tree : goal.descend-requires-clause-tree
descend-requires-clause-tree g c κs within =
    holds_tree (seen c.read.new.self) c.requires.map.0 (holds_map (seen c.args.client.now) (seen c.read.new.self) 13 c.in_ok-read.field-0 c.requires.map.0 c.requires.rooted c.requires.map.1 c.in_ok-read.ensures.ok c.if-branch-eq0.false c.in_ok-read.ensures.loads)

pub returns-then-branch-key-clause-value : goal.returns-then-branch-key-clause-value
returns-then-branch-key-clause-value g c = λ pairs m.
    let t : HoldsMap (seen c.read.new.self) pairs = holds_map (seen c.args.client.now) (seen c.read.new.self) 13 c.in_ok-read.field-0 pairs c.requires.rooted m c.in_ok-read.ensures.ok c.if-branch-eq0.false c.in_ok-read.ensures.loads in
    value_missing c.args.key c.in_ok-descend.field-0 (seen c.read.new.self) (seen c.descend.new.client) pairs t c.in_ok-descend.ensures.leaf c.if-branch-key.true

pub get_pay-requires-clause-full : goal.get_pay-requires-clause-full
get_pay-requires-clause-full g c κs within =
    held_some (seen c.read-2.new.self) 1 c.in_ok-descend.ensures.leaf.cell (cell_here c.args.key c.in_ok-descend.field-0 c.in_ok-read-2.field-0 (seen c.read.new.self) (seen c.descend.new.client) (seen c.read-2.new.self) c.in_ok-descend.ensures.leaf c.in_ok-read-2.ensures.ok c.in_ok-read-2.ensures.loads)

pub returns-clause-value : goal.returns-clause-value
returns-clause-value g c = λ pairs m.
    let t : HoldsMap (seen c.read.new.self) pairs = holds_map (seen c.args.client.now) (seen c.read.new.self) 13 c.in_ok-read.field-0 pairs c.requires.rooted m c.in_ok-read.ensures.ok c.if-branch-eq0.false c.in_ok-read.ensures.loads in
    value_found c.args.key c.in_ok-descend.field-0 c.in_ok-read-2.field-0 c.in_ok-get_pay.field-0 (seen c.read.new.self) (seen c.descend.new.client) (seen c.read-2.new.self) pairs t c.in_ok-descend.ensures.leaf c.if-branch-key.false c.in_ok-read-2.ensures.ok c.in_ok-read-2.ensures.loads c.in_ok-get_pay.ensures.ok

-- ---- the calls

pub returns-then-branch-eq0-clause-asks : goal.returns-then-branch-eq0-clause-asks
returns-then-branch-eq0-clause-asks g c = let few : 1 ≤ 198 = omega arith in asks_within few c.in_ok-read.ensures.asks

pub returns-then-branch-key-clause-asks : goal.returns-then-branch-key-clause-asks
returns-then-branch-key-clause-asks g c = let few : 1 + 194 ≤ 198 = omega arith in asks_within few (asks_then c.in_ok-read.ensures.asks c.in_ok-descend.ensures.asks)

pub returns-clause-asks : goal.returns-clause-asks
returns-clause-asks g c = let few : 1 + (194 + (1 + 1)) ≤ 198 = omega arith in asks_within few (asks_then c.in_ok-read.ensures.asks (asks_then c.in_ok-descend.ensures.asks (asks_then c.in_ok-read-2.ensures.asks c.in_ok-get_pay.ensures.asks)))

-- ---- refusals

pub returns-in_err-read-clause-refused : goal.returns-in_err-read-clause-refused
returns-in_err-read-clause-refused g c = out c.from_residual.result _ c.from_residual.ensures.1 (c.in_err-read.ensures.refused).fails

pub returns-in_err-read-clause-rooted : goal.returns-in_err-read-clause-rooted
returns-in_err-read-clause-rooted g c = (c.in_err-read.ensures.refused).fails.rooted ∙ c.requires.rooted

pub returns-in_err-read-clause-never_full : goal.returns-in_err-read-clause-never_full
returns-in_err-read-clause-never_full g c = out c.from_residual.result _ c.from_residual.ensures.1 (never_full (c.in_err-read.ensures.refused))

pub returns-in_err-descend-clause-refused : goal.returns-in_err-descend-clause-refused
returns-in_err-descend-clause-refused g c = out c.from_residual-in_err-descend.result _ c.from_residual-in_err-descend.ensures.1 (falls_after c.in_ok-read.ensures.asks c.in_err-descend.ensures.refused).fails

pub returns-in_err-descend-clause-rooted : goal.returns-in_err-descend-clause-rooted
returns-in_err-descend-clause-rooted g c = (falls_after c.in_ok-read.ensures.asks c.in_err-descend.ensures.refused).fails.rooted ∙ c.requires.rooted

pub returns-in_err-descend-clause-never_full : goal.returns-in_err-descend-clause-never_full
returns-in_err-descend-clause-never_full g c = out c.from_residual-in_err-descend.result _ c.from_residual-in_err-descend.ensures.1 (never_full (falls_after c.in_ok-read.ensures.asks c.in_err-descend.ensures.refused))

pub returns-in_err-read-2-clause-refused : goal.returns-in_err-read-2-clause-refused
returns-in_err-read-2-clause-refused g c = out c.from_residual-in_err-read-2.result _ c.from_residual-in_err-read-2.ensures.1 (falls_after c.in_ok-read.ensures.asks (falls_after c.in_ok-descend.ensures.asks c.in_err-read-2.ensures.refused)).fails

pub returns-in_err-read-2-clause-rooted : goal.returns-in_err-read-2-clause-rooted
returns-in_err-read-2-clause-rooted g c = (falls_after c.in_ok-read.ensures.asks (falls_after c.in_ok-descend.ensures.asks c.in_err-read-2.ensures.refused)).fails.rooted ∙ c.requires.rooted

pub returns-in_err-read-2-clause-never_full : goal.returns-in_err-read-2-clause-never_full
returns-in_err-read-2-clause-never_full g c = out c.from_residual-in_err-read-2.result _ c.from_residual-in_err-read-2.ensures.1 (never_full (falls_after c.in_ok-read.ensures.asks (falls_after c.in_ok-descend.ensures.asks c.in_err-read-2.ensures.refused)))

pub returns-in_err-get_pay-clause-refused : goal.returns-in_err-get_pay-clause-refused
returns-in_err-get_pay-clause-refused g c = out c.from_residual-in_err-get_pay.result _ c.from_residual-in_err-get_pay.ensures.1 (falls_after c.in_ok-read.ensures.asks (falls_after c.in_ok-descend.ensures.asks (falls_after c.in_ok-read-2.ensures.asks c.in_err-get_pay.ensures.refused))).fails

pub returns-in_err-get_pay-clause-rooted : goal.returns-in_err-get_pay-clause-rooted
returns-in_err-get_pay-clause-rooted g c = (falls_after c.in_ok-read.ensures.asks (falls_after c.in_ok-descend.ensures.asks (falls_after c.in_ok-read-2.ensures.asks c.in_err-get_pay.ensures.refused))).fails.rooted ∙ c.requires.rooted

pub returns-in_err-get_pay-clause-never_full : goal.returns-in_err-get_pay-clause-never_full
returns-in_err-get_pay-clause-never_full g c = out c.from_residual-in_err-get_pay.result _ c.from_residual-in_err-get_pay.ensures.1 (never_full (falls_after c.in_ok-read.ensures.asks (falls_after c.in_ok-descend.ensures.asks (falls_after c.in_ok-read-2.ensures.asks c.in_err-get_pay.ensures.refused))))

pub returns-then-branch-eq0-clause-rooted : goal.returns-then-branch-eq0-clause-rooted
returns-then-branch-eq0-clause-rooted g c = (c.in_ok-read.ensures.asks).rooted ∙ c.requires.rooted

pub returns-then-branch-key-clause-rooted : goal.returns-then-branch-key-clause-rooted
returns-then-branch-key-clause-rooted g c = (asks_then c.in_ok-read.ensures.asks c.in_ok-descend.ensures.asks).rooted ∙ c.requires.rooted

pub returns-clause-rooted : goal.returns-clause-rooted
returns-clause-rooted g c = (asks_then c.in_ok-read.ensures.asks (asks_then c.in_ok-descend.ensures.asks (asks_then c.in_ok-read-2.ensures.asks c.in_ok-get_pay.ensures.asks))).rooted ∙ c.requires.rooted
