use Rattle.object_map.specs.Clients.{seen}
use Rattle.object_map.proofs.AskLaws.{asks_then, asks_within, out, falls_after, never_full}
use Rattle.std.proofs.Common.{◌≡◌, ◌≤◌, ◌+◌, ◌<◌, refl, sym, ap, ◌∙◌, arith}
use Rattle.object_map.specs.Trees.{pairs_of}
use Rattle.object_map.specs.Ways.{whole}
use Rattle.object_map.proofs.WayLaws.{held_some}
use Rattle.object_map.proofs.OneLaws.{map-ascends_proof}
use Rattle.object_map.proofs.GetLaws.{HoldsMap, holds_map, holds_tree, cell_here, value_found}
use Rattle.plain_map.proofs.NextLaws.{next_exact}
use Rattle.object_map.proofs.NextLaws.{next_of_smaller, next_of_greater, leads_to, part_pairs, first_same, first_in, part_holds, part_tree, right_holds, right_none}
use Rattle.object_map.proofs.getting.ObjectMap.next.Goals as goal

pub descend-requires-clause-tree : goal.descend-requires-clause-tree
descend-requires-clause-tree g c κs within =
    holds_tree (seen c.read.new.self) c.requires.map.0 (holds_map (seen c.args.client.now) (seen c.read.new.self) 13 c.in_ok-read.field-0 c.requires.map.0 c.requires.rooted c.requires.map.1 c.in_ok-read.ensures.ok c.if-branch-eq0.false c.in_ok-read.ensures.loads)

pub get_pay-requires-clause-full : goal.get_pay-requires-clause-full
get_pay-requires-clause-full g c κs within =
    held_some (seen c.read-then-found-key.new.self) 1 c.in_ok-found.ensures.leaf.cell (cell_here c.args.key c.in_ok-found.found c.in_ok-read-2.field-0 (seen c.read.new.self) (seen c.descend.new.client) (seen c.read-then-found-key.new.self) c.in_ok-found.ensures.leaf c.in_ok-read-2.ensures.ok c.in_ok-read-2.ensures.loads)

pub returns-then-found-key-clause-pair : goal.returns-then-found-key-clause-pair
returns-then-found-key-clause-pair g c = λ pairs m.
    let t : HoldsMap (seen c.read.new.self) pairs = holds_map (seen c.args.client.now) (seen c.read.new.self) 13 c.in_ok-read.field-0 pairs c.requires.rooted m c.in_ok-read.ensures.ok c.if-branch-eq0.false c.in_ok-read.ensures.loads in
    next_exact c.args.key c.in_ok-value.value pairs (map-ascends_proof 13 (seen c.args.client.now).graph pairs m)
    (value_found c.args.key c.in_ok-found.found c.in_ok-read-2.field-0 c.in_ok-value.value (seen c.read.new.self) (seen c.descend.new.client) (seen c.read-then-found-key.new.self) pairs t c.in_ok-found.ensures.leaf c.if-found-key.true c.in_ok-read-2.ensures.ok c.in_ok-read-2.ensures.loads c.in_ok-value.ensures.ok)

pub part-requires-clause-tree : goal.part-requires-clause-tree
part-requires-clause-tree g c κs within = leads_to 13 c.args.key c.in_ok-found.found c.in_ok-read.field-0 (seen c.args.client.now) (seen c.read.new.self) (seen c.descend.new.client) c.requires.rooted c.in_ok-read.ensures.ok c.if-branch-eq0.false c.in_ok-read.ensures.loads c.in_ok-found.ensures.leaf

pub first_pair-requires-clause-tree : goal.first_pair-requires-clause-tree
first_pair-requires-clause-tree g c κs within = part_holds c.args.key c.in_ok-found.found c.in_ok-parting.parting.bit c.in_ok-parting.parting.register c.in_ok-parting.parting.slot c.in_ok-parting.parting.right (seen c.descend.new.client) (seen c.part.new.client) c.in_ok-parting.ensures.way

pub returns-then-key-found-clause-pair : goal.returns-then-key-found-clause-pair
returns-then-key-found-clause-pair g c = λ pairs m.
    let p : pairs ≡ pairs_of (whole c.in_ok-parting.ensures.way.turns c.in_ok-parting.ensures.way.tree) = part_pairs 13 c.args.key c.in_ok-found.found c.in_ok-parting.parting.bit c.in_ok-parting.parting.register c.in_ok-parting.parting.slot c.in_ok-read.field-0 c.in_ok-parting.parting.right (seen c.args.client.now) (seen c.read.new.self) (seen c.descend.new.client) (seen c.part.new.client) pairs c.in_ok-parting.ensures.way c.requires.rooted m c.in_ok-read.ensures.ok c.if-branch-eq0.false (c.in_ok-found.ensures.leaf.graph ∙ c.in_ok-read.ensures.loads.graph) refl in
    sym (next_of_smaller c.args.key c.in_ok-found.found c.in_ok-parting.parting.bit c.in_ok-parting.parting.register c.in_ok-parting.parting.slot c.in_ok-parting.parting.right (seen c.descend.new.client) (seen c.part.new.client) pairs c.in_ok-parting.ensures.way c.in_ok-parting.ensures.critical c.if-key-found.true p
    ∙ first_same 1 c.in_ok-pair.pair (seen c.part.new.client) c.in_ok-parting.ensures.way.tree c.in_ok-pair.ensures.first (part_tree c.args.key c.in_ok-found.found c.in_ok-parting.parting.bit c.in_ok-parting.parting.register c.in_ok-parting.parting.slot c.in_ok-parting.parting.right (seen c.descend.new.client) (seen c.part.new.client) c.in_ok-parting.ensures.way) c.in_ok-parting.ensures.way.here)

pub returns-then-not-parting-clause-pair : goal.returns-then-not-parting-clause-pair
returns-then-not-parting-clause-pair g c = λ pairs m.
    let p : pairs ≡ pairs_of (whole c.in_ok-parting.ensures.way.turns c.in_ok-parting.ensures.way.tree) = part_pairs 13 c.args.key c.in_ok-found.found c.in_ok-parting.parting.bit c.in_ok-parting.parting.register c.in_ok-parting.parting.slot c.in_ok-read.field-0 c.in_ok-parting.parting.right (seen c.args.client.now) (seen c.read.new.self) (seen c.descend.new.client) (seen c.part.new.client) pairs c.in_ok-parting.ensures.way c.requires.rooted m c.in_ok-read.ensures.ok c.if-branch-eq0.false (c.in_ok-found.ensures.leaf.graph ∙ c.in_ok-read.ensures.loads.graph) refl in
    let l : c.in_ok-found.found < c.args.key = omega (arith, c.if-key-found.false, c.if-found-key.false) in
    sym (next_of_greater c.args.key c.in_ok-found.found c.in_ok-parting.parting.bit c.in_ok-parting.parting.register c.in_ok-parting.parting.slot c.in_ok-parting.parting.right (seen c.descend.new.client) (seen c.part.new.client) pairs c.in_ok-parting.ensures.way c.in_ok-parting.ensures.critical l p ∙ right_none c.args.key c.in_ok-found.found c.in_ok-parting.parting.bit c.in_ok-parting.parting.register c.in_ok-parting.parting.slot c.in_ok-parting.parting.right (seen c.descend.new.client) (seen c.part.new.client) c.in_ok-parting.ensures.way c.if-not-parting.true)

pub first_pair-requires-2-clause-tree : goal.first_pair-requires-2-clause-tree
first_pair-requires-2-clause-tree g c κs within =
    let t = right_holds c.args.key c.in_ok-found.found c.in_ok-parting.parting.bit c.in_ok-parting.parting.register c.in_ok-parting.parting.slot c.in_ok-parting.parting.right (seen c.descend.new.client) (seen c.part.new.client) c.in_ok-parting.ensures.way c.if-not-parting.false in
    record { tree = t.0; stands = t.2; here = t.3 }

pub returns-clause-pair : goal.returns-clause-pair
returns-clause-pair g c = λ pairs m.
    let p : pairs ≡ pairs_of (whole c.in_ok-parting.ensures.way.turns c.in_ok-parting.ensures.way.tree) = part_pairs 13 c.args.key c.in_ok-found.found c.in_ok-parting.parting.bit c.in_ok-parting.parting.register c.in_ok-parting.parting.slot c.in_ok-read.field-0 c.in_ok-parting.parting.right (seen c.args.client.now) (seen c.read.new.self) (seen c.descend.new.client) (seen c.part.new.client) pairs c.in_ok-parting.ensures.way c.requires.rooted m c.in_ok-read.ensures.ok c.if-branch-eq0.false (c.in_ok-found.ensures.leaf.graph ∙ c.in_ok-read.ensures.loads.graph) refl in
    let l : c.in_ok-found.found < c.args.key = omega (arith, c.if-key-found.false, c.if-found-key.false) in
    let t = right_holds c.args.key c.in_ok-found.found c.in_ok-parting.parting.bit c.in_ok-parting.parting.register c.in_ok-parting.parting.slot c.in_ok-parting.parting.right (seen c.descend.new.client) (seen c.part.new.client) c.in_ok-parting.ensures.way c.if-not-parting.false in
    sym (next_of_greater c.args.key c.in_ok-found.found c.in_ok-parting.parting.bit c.in_ok-parting.parting.register c.in_ok-parting.parting.slot c.in_ok-parting.parting.right (seen c.descend.new.client) (seen c.part.new.client) pairs c.in_ok-parting.ensures.way c.in_ok-parting.ensures.critical l p ∙ ap first_in t.1 ∙ first_same 3 c.in_ok-pair-2.pair (seen c.part.new.client) t.0 c.in_ok-pair-2.ensures.first t.2.objects t.3)

-- ---- the calls

pub returns-then-branch-eq0-clause-asks : goal.returns-then-branch-eq0-clause-asks
returns-then-branch-eq0-clause-asks g c = let few : 1 ≤ 726 = omega arith in asks_within few c.in_ok-read.ensures.asks

pub returns-then-found-key-clause-asks : goal.returns-then-found-key-clause-asks
returns-then-found-key-clause-asks g c = let few : 1 + (194 + (1 + 1)) ≤ 726 = omega arith in asks_within few (asks_then c.in_ok-read.ensures.asks (asks_then c.in_ok-found.ensures.asks (asks_then c.in_ok-read-2.ensures.asks c.in_ok-value.ensures.asks)))

pub returns-then-key-found-clause-asks : goal.returns-then-key-found-clause-asks
returns-then-key-found-clause-asks g c = let few : 1 + (194 + (323 + 196)) ≤ 726 = omega arith in asks_within few (asks_then c.in_ok-read.ensures.asks (asks_then c.in_ok-found.ensures.asks (asks_then c.in_ok-parting.ensures.asks c.in_ok-pair.ensures.asks)))

pub returns-then-not-parting-clause-asks : goal.returns-then-not-parting-clause-asks
returns-then-not-parting-clause-asks g c = let few : 1 + (194 + 323) ≤ 726 = omega arith in asks_within few (asks_then c.in_ok-read.ensures.asks (asks_then c.in_ok-found.ensures.asks c.in_ok-parting.ensures.asks))

pub returns-clause-asks : goal.returns-clause-asks
returns-clause-asks g c = let few : 1 + (194 + (323 + 196)) ≤ 726 = omega arith in asks_within few (asks_then c.in_ok-read.ensures.asks (asks_then c.in_ok-found.ensures.asks (asks_then c.in_ok-parting.ensures.asks c.in_ok-pair-2.ensures.asks)))

-- ---- refusals

pub returns-in_err-read-clause-refused : goal.returns-in_err-read-clause-refused
returns-in_err-read-clause-refused g c = out c.from_residual.result _ c.from_residual.ensures.1 (c.in_err-read.ensures.refused).fails

pub returns-in_err-read-clause-rooted : goal.returns-in_err-read-clause-rooted
returns-in_err-read-clause-rooted g c = (c.in_err-read.ensures.refused).fails.rooted ∙ c.requires.rooted

pub returns-in_err-read-clause-never_full : goal.returns-in_err-read-clause-never_full
returns-in_err-read-clause-never_full g c = out c.from_residual.result _ c.from_residual.ensures.1 (never_full (c.in_err-read.ensures.refused))

pub returns-in_err-found-clause-refused : goal.returns-in_err-found-clause-refused
returns-in_err-found-clause-refused g c = out c.from_residual-in_err-found.result _ c.from_residual-in_err-found.ensures.1 (falls_after c.in_ok-read.ensures.asks c.in_err-found.ensures.refused).fails

pub returns-in_err-found-clause-rooted : goal.returns-in_err-found-clause-rooted
returns-in_err-found-clause-rooted g c = (falls_after c.in_ok-read.ensures.asks c.in_err-found.ensures.refused).fails.rooted ∙ c.requires.rooted

pub returns-in_err-found-clause-never_full : goal.returns-in_err-found-clause-never_full
returns-in_err-found-clause-never_full g c = out c.from_residual-in_err-found.result _ c.from_residual-in_err-found.ensures.1 (never_full (falls_after c.in_ok-read.ensures.asks c.in_err-found.ensures.refused))

pub returns-in_err-read-2-clause-refused : goal.returns-in_err-read-2-clause-refused
returns-in_err-read-2-clause-refused g c = out c.from_residual-in_err-read-2.result _ c.from_residual-in_err-read-2.ensures.1 (falls_after c.in_ok-read.ensures.asks (falls_after c.in_ok-found.ensures.asks c.in_err-read-2.ensures.refused)).fails

pub returns-in_err-read-2-clause-rooted : goal.returns-in_err-read-2-clause-rooted
returns-in_err-read-2-clause-rooted g c = (falls_after c.in_ok-read.ensures.asks (falls_after c.in_ok-found.ensures.asks c.in_err-read-2.ensures.refused)).fails.rooted ∙ c.requires.rooted

pub returns-in_err-read-2-clause-never_full : goal.returns-in_err-read-2-clause-never_full
returns-in_err-read-2-clause-never_full g c = out c.from_residual-in_err-read-2.result _ c.from_residual-in_err-read-2.ensures.1 (never_full (falls_after c.in_ok-read.ensures.asks (falls_after c.in_ok-found.ensures.asks c.in_err-read-2.ensures.refused)))

pub returns-in_err-value-clause-refused : goal.returns-in_err-value-clause-refused
returns-in_err-value-clause-refused g c = out c.from_residual-in_err-value.result _ c.from_residual-in_err-value.ensures.1 (falls_after c.in_ok-read.ensures.asks (falls_after c.in_ok-found.ensures.asks (falls_after c.in_ok-read-2.ensures.asks c.in_err-value.ensures.refused))).fails

pub returns-in_err-value-clause-rooted : goal.returns-in_err-value-clause-rooted
returns-in_err-value-clause-rooted g c = (falls_after c.in_ok-read.ensures.asks (falls_after c.in_ok-found.ensures.asks (falls_after c.in_ok-read-2.ensures.asks c.in_err-value.ensures.refused))).fails.rooted ∙ c.requires.rooted

pub returns-in_err-value-clause-never_full : goal.returns-in_err-value-clause-never_full
returns-in_err-value-clause-never_full g c = out c.from_residual-in_err-value.result _ c.from_residual-in_err-value.ensures.1 (never_full (falls_after c.in_ok-read.ensures.asks (falls_after c.in_ok-found.ensures.asks (falls_after c.in_ok-read-2.ensures.asks c.in_err-value.ensures.refused))))

pub returns-in_err-parting-clause-refused : goal.returns-in_err-parting-clause-refused
returns-in_err-parting-clause-refused g c = out c.from_residual-in_err-parting.result _ c.from_residual-in_err-parting.ensures.1 (falls_after c.in_ok-read.ensures.asks (falls_after c.in_ok-found.ensures.asks c.in_err-parting.ensures.refused)).fails

pub returns-in_err-parting-clause-rooted : goal.returns-in_err-parting-clause-rooted
returns-in_err-parting-clause-rooted g c = (falls_after c.in_ok-read.ensures.asks (falls_after c.in_ok-found.ensures.asks c.in_err-parting.ensures.refused)).fails.rooted ∙ c.requires.rooted

pub returns-in_err-parting-clause-never_full : goal.returns-in_err-parting-clause-never_full
returns-in_err-parting-clause-never_full g c = out c.from_residual-in_err-parting.result _ c.from_residual-in_err-parting.ensures.1 (never_full (falls_after c.in_ok-read.ensures.asks (falls_after c.in_ok-found.ensures.asks c.in_err-parting.ensures.refused)))

pub returns-in_err-pair-clause-refused : goal.returns-in_err-pair-clause-refused
returns-in_err-pair-clause-refused g c = out c.from_residual-in_err-pair.result _ c.from_residual-in_err-pair.ensures.1 (falls_after c.in_ok-read.ensures.asks (falls_after c.in_ok-found.ensures.asks (falls_after c.in_ok-parting.ensures.asks c.in_err-pair.ensures.refused))).fails

pub returns-in_err-pair-clause-rooted : goal.returns-in_err-pair-clause-rooted
returns-in_err-pair-clause-rooted g c = (falls_after c.in_ok-read.ensures.asks (falls_after c.in_ok-found.ensures.asks (falls_after c.in_ok-parting.ensures.asks c.in_err-pair.ensures.refused))).fails.rooted ∙ c.requires.rooted

pub returns-in_err-pair-clause-never_full : goal.returns-in_err-pair-clause-never_full
returns-in_err-pair-clause-never_full g c = out c.from_residual-in_err-pair.result _ c.from_residual-in_err-pair.ensures.1 (never_full (falls_after c.in_ok-read.ensures.asks (falls_after c.in_ok-found.ensures.asks (falls_after c.in_ok-parting.ensures.asks c.in_err-pair.ensures.refused))))

pub returns-in_err-pair-2-clause-refused : goal.returns-in_err-pair-2-clause-refused
returns-in_err-pair-2-clause-refused g c = out c.from_residual-in_err-pair-2.result _ c.from_residual-in_err-pair-2.ensures.1 (falls_after c.in_ok-read.ensures.asks (falls_after c.in_ok-found.ensures.asks (falls_after c.in_ok-parting.ensures.asks c.in_err-pair-2.ensures.refused))).fails

pub returns-in_err-pair-2-clause-rooted : goal.returns-in_err-pair-2-clause-rooted
returns-in_err-pair-2-clause-rooted g c = (falls_after c.in_ok-read.ensures.asks (falls_after c.in_ok-found.ensures.asks (falls_after c.in_ok-parting.ensures.asks c.in_err-pair-2.ensures.refused))).fails.rooted ∙ c.requires.rooted

pub returns-in_err-pair-2-clause-never_full : goal.returns-in_err-pair-2-clause-never_full
returns-in_err-pair-2-clause-never_full g c = out c.from_residual-in_err-pair-2.result _ c.from_residual-in_err-pair-2.ensures.1 (never_full (falls_after c.in_ok-read.ensures.asks (falls_after c.in_ok-found.ensures.asks (falls_after c.in_ok-parting.ensures.asks c.in_err-pair-2.ensures.refused))))

pub returns-then-branch-eq0-clause-rooted : goal.returns-then-branch-eq0-clause-rooted
returns-then-branch-eq0-clause-rooted g c = (c.in_ok-read.ensures.asks).rooted ∙ c.requires.rooted

pub returns-then-found-key-clause-rooted : goal.returns-then-found-key-clause-rooted
returns-then-found-key-clause-rooted g c = (asks_then c.in_ok-read.ensures.asks (asks_then c.in_ok-found.ensures.asks (asks_then c.in_ok-read-2.ensures.asks c.in_ok-value.ensures.asks))).rooted ∙ c.requires.rooted

pub returns-then-key-found-clause-rooted : goal.returns-then-key-found-clause-rooted
returns-then-key-found-clause-rooted g c = (asks_then c.in_ok-read.ensures.asks (asks_then c.in_ok-found.ensures.asks (asks_then c.in_ok-parting.ensures.asks c.in_ok-pair.ensures.asks))).rooted ∙ c.requires.rooted

pub returns-then-not-parting-clause-rooted : goal.returns-then-not-parting-clause-rooted
returns-then-not-parting-clause-rooted g c = (asks_then c.in_ok-read.ensures.asks (asks_then c.in_ok-found.ensures.asks c.in_ok-parting.ensures.asks)).rooted ∙ c.requires.rooted

pub returns-clause-rooted : goal.returns-clause-rooted
returns-clause-rooted g c = (asks_then c.in_ok-read.ensures.asks (asks_then c.in_ok-found.ensures.asks (asks_then c.in_ok-parting.ensures.asks c.in_ok-pair-2.ensures.asks))).rooted ∙ c.requires.rooted
