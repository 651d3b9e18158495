use Rattle.std.proofs.Common.{◌≤◌, ◌+◌, ◌-◌, ◌^◌, ◌∙◌, None, ap, sym, arith}
use Rattle.std.specs.List.{last_or}
use Rattle.object_map.specs.Clients.{seen}
use Rattle.object_map.proofs.AskLaws.{asks_then, asks_within, out, falls_after, never_full}
use Rattle.object_map.proofs.WayLaws.{held_some}
use Rattle.object_map.proofs.GetLaws.{HoldsMap, holds_map, holds_tree, cell_here, empty_map}
use Rattle.object_map.proofs.LastLaws.{last_found}
use Rattle.object_map.proofs.getting.ObjectMap.last.Goals as goal

pub descend-requires-clause-tree : goal.descend-requires-clause-tree
descend-requires-clause-tree g c κs within =
    holds_tree (seen c.read.new.self) c.requires.map.0 (holds_map (seen c.args.client.now) (seen c.read.new.self) 13 c.in_ok-read.field-0 c.requires.map.0 c.requires.rooted c.requires.map.1 c.in_ok-read.ensures.ok c.if-branch-eq0.false c.in_ok-read.ensures.loads)

pub get_pay-requires-clause-full : goal.get_pay-requires-clause-full
get_pay-requires-clause-full g c κs within =
    held_some (seen c.read-2.new.self) 1 c.in_ok-key.ensures.leaf.cell (cell_here (2 ^ 64 - 1) c.in_ok-key.key c.in_ok-read-2.field-0 (seen c.read.new.self) (seen c.descend.new.client) (seen c.read-2.new.self) c.in_ok-key.ensures.leaf c.in_ok-read-2.ensures.ok c.in_ok-read-2.ensures.loads)

pub returns-then-branch-eq0-clause-pair : goal.returns-then-branch-eq0-clause-pair
returns-then-branch-eq0-clause-pair g c = λ pairs m. sym (ap (last_or None) (empty_map (seen c.args.client.now) 13 c.in_ok-read.field-0 pairs c.requires.rooted m c.in_ok-read.ensures.ok c.if-branch-eq0.true))

pub returns-clause-pair : goal.returns-clause-pair
returns-clause-pair g c = λ pairs m.
    let t : HoldsMap (seen c.read.new.self) pairs = holds_map (seen c.args.client.now) (seen c.read.new.self) 13 c.in_ok-read.field-0 pairs c.requires.rooted m c.in_ok-read.ensures.ok c.if-branch-eq0.false c.in_ok-read.ensures.loads in
    last_found c.in_ok-key.key c.in_ok-read-2.field-0 c.in_ok-value.value (seen c.read.new.self) (seen c.descend.new.client) (seen c.read-2.new.self) pairs t c.in_ok-key.ensures.leaf c.in_ok-read-2.ensures.ok c.in_ok-read-2.ensures.loads c.in_ok-value.ensures.ok

-- ---- the calls

pub returns-then-branch-eq0-clause-asks : goal.returns-then-branch-eq0-clause-asks
returns-then-branch-eq0-clause-asks g c = let few : 1 ≤ 198 = omega arith in asks_within few c.in_ok-read.ensures.asks

pub returns-clause-asks : goal.returns-clause-asks
returns-clause-asks g c = let few : 1 + (194 + (1 + 1)) ≤ 198 = omega arith in asks_within few (asks_then c.in_ok-read.ensures.asks (asks_then c.in_ok-key.ensures.asks (asks_then c.in_ok-read-2.ensures.asks c.in_ok-value.ensures.asks)))

-- ---- refusals

pub returns-in_err-read-clause-refused : goal.returns-in_err-read-clause-refused
returns-in_err-read-clause-refused g c = out c.from_residual.result _ c.from_residual.ensures.1 (c.in_err-read.ensures.refused).fails

pub returns-in_err-read-clause-rooted : goal.returns-in_err-read-clause-rooted
returns-in_err-read-clause-rooted g c = (c.in_err-read.ensures.refused).fails.rooted ∙ c.requires.rooted

pub returns-in_err-read-clause-never_full : goal.returns-in_err-read-clause-never_full
returns-in_err-read-clause-never_full g c = out c.from_residual.result _ c.from_residual.ensures.1 (never_full (c.in_err-read.ensures.refused))

pub returns-in_err-key-clause-refused : goal.returns-in_err-key-clause-refused
returns-in_err-key-clause-refused g c = out c.from_residual-in_err-key.result _ c.from_residual-in_err-key.ensures.1 (falls_after c.in_ok-read.ensures.asks c.in_err-key.ensures.refused).fails

pub returns-in_err-key-clause-rooted : goal.returns-in_err-key-clause-rooted
returns-in_err-key-clause-rooted g c = (falls_after c.in_ok-read.ensures.asks c.in_err-key.ensures.refused).fails.rooted ∙ c.requires.rooted

pub returns-in_err-key-clause-never_full : goal.returns-in_err-key-clause-never_full
returns-in_err-key-clause-never_full g c = out c.from_residual-in_err-key.result _ c.from_residual-in_err-key.ensures.1 (never_full (falls_after c.in_ok-read.ensures.asks c.in_err-key.ensures.refused))

pub returns-in_err-read-2-clause-refused : goal.returns-in_err-read-2-clause-refused
returns-in_err-read-2-clause-refused g c = out c.from_residual-in_err-read-2.result _ c.from_residual-in_err-read-2.ensures.1 (falls_after c.in_ok-read.ensures.asks (falls_after c.in_ok-key.ensures.asks c.in_err-read-2.ensures.refused)).fails

pub returns-in_err-read-2-clause-rooted : goal.returns-in_err-read-2-clause-rooted
returns-in_err-read-2-clause-rooted g c = (falls_after c.in_ok-read.ensures.asks (falls_after c.in_ok-key.ensures.asks c.in_err-read-2.ensures.refused)).fails.rooted ∙ c.requires.rooted

pub returns-in_err-read-2-clause-never_full : goal.returns-in_err-read-2-clause-never_full
returns-in_err-read-2-clause-never_full g c = out c.from_residual-in_err-read-2.result _ c.from_residual-in_err-read-2.ensures.1 (never_full (falls_after c.in_ok-read.ensures.asks (falls_after c.in_ok-key.ensures.asks c.in_err-read-2.ensures.refused)))

pub returns-in_err-value-clause-refused : goal.returns-in_err-value-clause-refused
returns-in_err-value-clause-refused g c = out c.from_residual-in_err-value.result _ c.from_residual-in_err-value.ensures.1 (falls_after c.in_ok-read.ensures.asks (falls_after c.in_ok-key.ensures.asks (falls_after c.in_ok-read-2.ensures.asks c.in_err-value.ensures.refused))).fails

pub returns-in_err-value-clause-rooted : goal.returns-in_err-value-clause-rooted
returns-in_err-value-clause-rooted g c = (falls_after c.in_ok-read.ensures.asks (falls_after c.in_ok-key.ensures.asks (falls_after c.in_ok-read-2.ensures.asks c.in_err-value.ensures.refused))).fails.rooted ∙ c.requires.rooted

pub returns-in_err-value-clause-never_full : goal.returns-in_err-value-clause-never_full
returns-in_err-value-clause-never_full g c = out c.from_residual-in_err-value.result _ c.from_residual-in_err-value.ensures.1 (never_full (falls_after c.in_ok-read.ensures.asks (falls_after c.in_ok-key.ensures.asks (falls_after c.in_ok-read-2.ensures.asks c.in_err-value.ensures.refused))))

pub returns-then-branch-eq0-clause-rooted : goal.returns-then-branch-eq0-clause-rooted
returns-then-branch-eq0-clause-rooted g c = (c.in_ok-read.ensures.asks).rooted ∙ c.requires.rooted

pub returns-clause-rooted : goal.returns-clause-rooted
returns-clause-rooted g c = (asks_then c.in_ok-read.ensures.asks (asks_then c.in_ok-key.ensures.asks (asks_then c.in_ok-read-2.ensures.asks c.in_ok-value.ensures.asks))).rooted ∙ c.requires.rooted
