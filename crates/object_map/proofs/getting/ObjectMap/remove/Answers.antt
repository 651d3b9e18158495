use Rattle.plain_model.specs.declared.write.Place.TheVariants.{Slot}
use Rattle.plain_model.specs.Graphs.{object_at}
use Rattle.object_map.specs.Clients.{seen}
use Rattle.object_map.specs.Changes.RemovesBy.{nothing, unhangs}
use Rattle.object_map.proofs.AskLaws.{asks_then, asks_within, out, falls_after, never_full}
use Rattle.object_map.proofs.OthersLaws.{keeps_same, keeps_from, only_keeps, twice_keeps}
use Rattle.object_map.proofs.CountLaws.{is_there}
use Rattle.object_map.proofs.MakeLaws.{writes_other}
use Rattle.std.proofs.Common.{Some, None, [], ◌≤◌, ◌+◌, sym, ap, ◌∙◌, arith}
use Rattle.object_map.specs.Seen.{Seen, held, held_id}
use Rattle.plain_map.specs.Pairs.{value_of}
use Rattle.object_map.proofs.WayLaws.{held_some}
use Rattle.object_map.proofs.GetLaws.{holds_map, empty_map}
use Rattle.object_map.proofs.RemoveLaws.{has_tree, sought_missing, missing_removed, sought_here, sought_value, only_removed, twice_removed, twice_full, emptied_map, unhung_map}
use Rattle.object_map.proofs.LossLaws.{holds_none, loses_same, emptied_loses, unhung_loses}
use Rattle.object_map.proofs.getting.ObjectMap.remove.Goals as goal

pub seek-requires-clause-tree : goal.seek-requires-clause-tree
seek-requires-clause-tree g c κs within =
    has_tree (seen c.args.client.now) (seen c.read.new.self) c.in_ok-read.field-0 c.requires.map.0 c.requires.rooted c.in_ok-read.ensures.ok c.if-branch-eq0.false c.in_ok-read.ensures.loads
    (holds_map (seen c.args.client.now) (seen c.read.new.self) 13 c.in_ok-read.field-0 c.requires.map.0 c.requires.rooted c.requires.map.1 c.in_ok-read.ensures.ok c.if-branch-eq0.false c.in_ok-read.ensures.loads)

pub returns-then-sought-key-clause-before : goal.returns-then-sought-key-clause-before
returns-then-sought-key-clause-before g c = λ pairs m. sought_missing c.args.key c.in_ok-sought.sought.found c.in_ok-sought.sought.side c.in_ok-sought.sought.register c.in_ok-sought.sought.slot c.in_ok-sought.sought.only (seen c.args.client.now) (seen c.read.new.self) (seen c.seek.new.client) pairs c.in_ok-sought.ensures.leaf c.in_ok-read.ensures.loads.graph m c.if-sought-key.true

pub returns-then-sought-key-clause-map : goal.returns-then-sought-key-clause-map
returns-then-sought-key-clause-map g c = λ pairs m. missing_removed c.args.key (seen c.args.client.now) (seen c.seek.new.client) pairs (c.in_ok-sought.ensures.leaf.graph ∙ c.in_ok-read.ensures.loads.graph) m (sought_missing c.args.key c.in_ok-sought.sought.found c.in_ok-sought.sought.side c.in_ok-sought.sought.register c.in_ok-sought.sought.slot c.in_ok-sought.sought.only (seen c.args.client.now) (seen c.read.new.self) (seen c.seek.new.client) pairs c.in_ok-sought.ensures.leaf c.in_ok-read.ensures.loads.graph m c.if-sought-key.true)

pub get_pay-requires-clause-full : goal.get_pay-requires-clause-full
get_pay-requires-clause-full g c κs within = held_some (seen c.read-2.new.self) 4 c.in_ok-sought.ensures.leaf.cell (sought_here c.args.key c.in_ok-sought.sought.found c.in_ok-sought.sought.side c.in_ok-sought.sought.register c.in_ok-sought.sought.slot c.in_ok-read-2.field-0 c.in_ok-sought.sought.only (seen c.read.new.self) (seen c.seek.new.client) (seen c.read-2.new.self) c.in_ok-sought.ensures.leaf c.in_ok-read-2.ensures.ok c.in_ok-read-2.ensures.loads)

pub returns-then-sought-clause-before : goal.returns-then-sought-clause-before
returns-then-sought-clause-before g c = λ pairs m. sought_value c.args.key c.in_ok-sought.sought.found c.in_ok-sought.sought.side c.in_ok-sought.sought.register c.in_ok-sought.sought.slot c.in_ok-read-2.field-0 c.in_ok-before.before c.in_ok-sought.sought.only (seen c.args.client.now) (seen c.read.new.self) (seen c.seek.new.client) (seen c.read-2.new.self) pairs c.in_ok-sought.ensures.leaf c.in_ok-read.ensures.loads.graph m c.if-sought-key.false c.in_ok-read-2.ensures.ok c.in_ok-read-2.ensures.loads c.in_ok-before.ensures.ok

pub returns-then-sought-clause-map : goal.returns-then-sought-clause-map
returns-then-sought-clause-map g c = λ pairs m.
    emptied_map (only_removed c.args.key c.in_ok-sought.sought.found c.in_ok-sought.sought.side c.in_ok-sought.sought.register c.in_ok-sought.sought.slot c.in_ok-sought.sought.only (seen c.args.client.now) (seen c.read.new.self) (seen c.seek.new.client) (seen c.get_pay.new.self) (seen c.store.new.self) pairs c.in_ok-sought.ensures.leaf c.in_ok-read.ensures.loads.graph m c.if-sought-key.false c.if-sought.true (ap (λ (v : Seen). v.graph) c.in_ok-before.ensures.same ∙ c.in_ok-read-2.ensures.loads.graph) (ap (λ (v : Seen). held v 0) c.in_ok-before.ensures.same ∙ c.in_ok-read-2.ensures.loads.others 0 (λ z. absurd (omega (arith, z))) ∙ c.in_ok-sought.ensures.leaf.rooted) c.in_ok-store.ensures.ok)

pub store-requires-2-clause-source_full : goal.store-requires-2-clause-source_full
store-requires-2-clause-source_full g c κs within = twice_full c.args.key c.in_ok-sought.sought.found c.in_ok-sought.sought.side c.in_ok-sought.sought.register c.in_ok-sought.sought.slot c.in_ok-read-3.field-0 c.in_ok-sought.sought.only (seen c.read.new.self) (seen c.seek.new.client) (seen c.get_pay.new.self) (seen c.read-3.new.self) c.in_ok-sought.ensures.leaf c.if-sought.false (ap (λ (v : Seen). v.graph) c.in_ok-before.ensures.same ∙ c.in_ok-read-2.ensures.loads.graph) (λ j n. ap (λ v. held v j) c.in_ok-before.ensures.same ∙ c.in_ok-read-2.ensures.loads.others j n) c.in_ok-read-3.ensures.ok c.in_ok-read-3.ensures.loads

pub returns-clause-before : goal.returns-clause-before
returns-clause-before g c = λ pairs m. sought_value c.args.key c.in_ok-sought.sought.found c.in_ok-sought.sought.side c.in_ok-sought.sought.register c.in_ok-sought.sought.slot c.in_ok-read-2.field-0 c.in_ok-before.before c.in_ok-sought.sought.only (seen c.args.client.now) (seen c.read.new.self) (seen c.seek.new.client) (seen c.read-2.new.self) pairs c.in_ok-sought.ensures.leaf c.in_ok-read.ensures.loads.graph m c.if-sought-key.false c.in_ok-read-2.ensures.ok c.in_ok-read-2.ensures.loads c.in_ok-before.ensures.ok

pub returns-clause-map : goal.returns-clause-map
returns-clause-map g c = λ pairs m.
    unhung_map (twice_removed c.args.key c.in_ok-sought.sought.found c.in_ok-sought.sought.side c.in_ok-sought.sought.register c.in_ok-sought.sought.slot c.in_ok-read-3.field-0 c.in_ok-sought.sought.only (seen c.args.client.now) (seen c.read.new.self) (seen c.seek.new.client) (seen c.get_pay.new.self) (seen c.read-3.new.self) (seen c.store-2.new.self) pairs c.in_ok-sought.ensures.leaf c.in_ok-read.ensures.loads.graph m c.if-sought-key.false c.if-sought.false (ap (λ (v : Seen). v.graph) c.in_ok-before.ensures.same ∙ c.in_ok-read-2.ensures.loads.graph) (λ j n. ap (λ v. held v j) c.in_ok-before.ensures.same ∙ c.in_ok-read-2.ensures.loads.others j n) c.in_ok-read-3.ensures.ok c.in_ok-read-3.ensures.loads c.in_ok-store-2.ensures.ok)

-- ---- what else is as it was

pub returns-then-branch-eq0-clause-outside : goal.returns-then-branch-eq0-clause-outside
returns-then-branch-eq0-clause-outside g c = keeps_same (seen c.args.client.now) (seen c.read.new.self) c.in_ok-read.ensures.loads.graph

pub returns-then-sought-key-clause-outside : goal.returns-then-sought-key-clause-outside
returns-then-sought-key-clause-outside g c = keeps_same (seen c.args.client.now) (seen c.seek.new.client) (c.in_ok-sought.ensures.leaf.graph ∙ c.in_ok-read.ensures.loads.graph)

pub returns-then-sought-clause-outside : goal.returns-then-sought-clause-outside
returns-then-sought-clause-outside g c =
    keeps_from (seen c.args.client.now) (seen c.read.new.self) (seen c.store.new.self) c.in_ok-read.ensures.loads.graph
    (only_keeps c.args.key c.in_ok-sought.sought.found c.in_ok-sought.sought.side c.in_ok-sought.sought.register c.in_ok-sought.sought.slot c.in_ok-sought.sought.only (seen c.read.new.self) (seen c.seek.new.client) (seen c.get_pay.new.self) (seen c.store.new.self) c.in_ok-sought.ensures.leaf (ap (λ (v : Seen). v.graph) c.in_ok-before.ensures.same ∙ c.in_ok-read-2.ensures.loads.graph) (ap (λ (v : Seen). held v 0) c.in_ok-before.ensures.same ∙ c.in_ok-read-2.ensures.loads.others 0 (λ z. absurd (omega (arith, z))) ∙ c.in_ok-sought.ensures.leaf.rooted) c.in_ok-store.ensures.ok)

pub returns-clause-outside : goal.returns-clause-outside
returns-clause-outside g c =
    keeps_from (seen c.args.client.now) (seen c.read.new.self) (seen c.store-2.new.self) c.in_ok-read.ensures.loads.graph
    (twice_keeps c.args.key c.in_ok-sought.sought.found c.in_ok-sought.sought.side c.in_ok-sought.sought.register c.in_ok-sought.sought.slot c.in_ok-read-3.field-0 (held_id (seen c.read-3.new.self) 1) c.in_ok-sought.sought.only (seen c.read.new.self) (seen c.seek.new.client) (seen c.get_pay.new.self) (seen c.read-3.new.self) (seen c.store-2.new.self) c.in_ok-sought.ensures.leaf c.if-sought.false (ap (λ (v : Seen). v.graph) c.in_ok-before.ensures.same ∙ c.in_ok-read-2.ensures.loads.graph) (λ j n. ap (λ v. held v j) c.in_ok-before.ensures.same ∙ c.in_ok-read-2.ensures.loads.others j n) c.in_ok-read-3.ensures.loads c.in_ok-store-2.ensures.ok)

-- ---- the objects that the map loses

pub returns-then-branch-eq0-clause-loses : goal.returns-then-branch-eq0-clause-loses
returns-then-branch-eq0-clause-loses g c = λ pairs m.
    let empty = empty_map (seen c.args.client.now) 13 c.in_ok-read.field-0 pairs c.requires.rooted m c.in_ok-read.ensures.ok c.if-branch-eq0.true in
    ([], (holds_none c.args.key pairs (ap (value_of c.args.key) empty), loses_same (seen c.args.client.now) (seen c.read.new.self) c.in_ok-read.ensures.loads.graph))

pub returns-then-sought-key-clause-loses : goal.returns-then-sought-key-clause-loses
returns-then-sought-key-clause-loses g c = λ pairs m.
    let none = sym (sought_missing c.args.key c.in_ok-sought.sought.found c.in_ok-sought.sought.side c.in_ok-sought.sought.register c.in_ok-sought.sought.slot c.in_ok-sought.sought.only (seen c.args.client.now) (seen c.read.new.self) (seen c.seek.new.client) pairs c.in_ok-sought.ensures.leaf c.in_ok-read.ensures.loads.graph m c.if-sought-key.true) in
    ([], (holds_none c.args.key pairs none, loses_same (seen c.args.client.now) (seen c.seek.new.client) (c.in_ok-sought.ensures.leaf.graph ∙ c.in_ok-read.ensures.loads.graph)))

pub returns-then-sought-clause-loses : goal.returns-then-sought-clause-loses
returns-then-sought-clause-loses g c = λ pairs m.
    let has = sought_value c.args.key c.in_ok-sought.sought.found c.in_ok-sought.sought.side c.in_ok-sought.sought.register c.in_ok-sought.sought.slot c.in_ok-read-2.field-0 c.in_ok-before.before c.in_ok-sought.sought.only (seen c.args.client.now) (seen c.read.new.self) (seen c.seek.new.client) (seen c.read-2.new.self) pairs c.in_ok-sought.ensures.leaf c.in_ok-read.ensures.loads.graph m c.if-sought-key.false c.in_ok-read-2.ensures.ok c.in_ok-read-2.ensures.loads c.in_ok-before.ensures.ok in
    emptied_loses c.args.key c.in_ok-before.before (seen c.args.client.now) (seen c.read.new.self) (seen c.store.new.self) pairs c.in_ok-read.ensures.loads.graph has
    (only_removed c.args.key c.in_ok-sought.sought.found c.in_ok-sought.sought.side c.in_ok-sought.sought.register c.in_ok-sought.sought.slot c.in_ok-sought.sought.only (seen c.args.client.now) (seen c.read.new.self) (seen c.seek.new.client) (seen c.get_pay.new.self) (seen c.store.new.self) pairs c.in_ok-sought.ensures.leaf c.in_ok-read.ensures.loads.graph m c.if-sought-key.false c.if-sought.true (ap (λ (v : Seen). v.graph) c.in_ok-before.ensures.same ∙ c.in_ok-read-2.ensures.loads.graph) (ap (λ (v : Seen). held v 0) c.in_ok-before.ensures.same ∙ c.in_ok-read-2.ensures.loads.others 0 (λ z. absurd (omega (arith, z))) ∙ c.in_ok-sought.ensures.leaf.rooted) c.in_ok-store.ensures.ok)

pub returns-clause-loses : goal.returns-clause-loses
returns-clause-loses g c = λ pairs m.
    let has = sought_value c.args.key c.in_ok-sought.sought.found c.in_ok-sought.sought.side c.in_ok-sought.sought.register c.in_ok-sought.sought.slot c.in_ok-read-2.field-0 c.in_ok-before.before c.in_ok-sought.sought.only (seen c.args.client.now) (seen c.read.new.self) (seen c.seek.new.client) (seen c.read-2.new.self) pairs c.in_ok-sought.ensures.leaf c.in_ok-read.ensures.loads.graph m c.if-sought-key.false c.in_ok-read-2.ensures.ok c.in_ok-read-2.ensures.loads c.in_ok-before.ensures.ok in
    unhung_loses c.args.key c.in_ok-before.before (seen c.args.client.now) (seen c.read-3.new.self) (seen c.store-2.new.self) pairs
    (c.in_ok-read-3.ensures.loads.graph ∙ (ap (λ (v : Seen). v.graph) c.in_ok-before.ensures.same ∙ c.in_ok-read-2.ensures.loads.graph) ∙ c.in_ok-sought.ensures.leaf.graph ∙ c.in_ok-read.ensures.loads.graph) has
    (twice_removed c.args.key c.in_ok-sought.sought.found c.in_ok-sought.sought.side c.in_ok-sought.sought.register c.in_ok-sought.sought.slot c.in_ok-read-3.field-0 c.in_ok-sought.sought.only (seen c.args.client.now) (seen c.read.new.self) (seen c.seek.new.client) (seen c.get_pay.new.self) (seen c.read-3.new.self) (seen c.store-2.new.self) pairs c.in_ok-sought.ensures.leaf c.in_ok-read.ensures.loads.graph m c.if-sought-key.false c.if-sought.false (ap (λ (v : Seen). v.graph) c.in_ok-before.ensures.same ∙ c.in_ok-read-2.ensures.loads.graph) (λ j n. ap (λ v. held v j) c.in_ok-before.ensures.same ∙ c.in_ok-read-2.ensures.loads.others j n) c.in_ok-read-3.ensures.ok c.in_ok-read-3.ensures.loads c.in_ok-store-2.ensures.ok)

-- ---- one object changes at most

pub returns-then-branch-eq0-clause-once : goal.returns-then-branch-eq0-clause-once
returns-then-branch-eq0-clause-once g c = (0, λ x n. ap (λ q. object_at q x) c.in_ok-read.ensures.loads.graph)

pub returns-then-sought-key-clause-once : goal.returns-then-sought-key-clause-once
returns-then-sought-key-clause-once g c = (0, λ x n. ap (λ q. object_at q x) (c.in_ok-sought.ensures.leaf.graph ∙ c.in_ok-read.ensures.loads.graph))

pub returns-then-sought-clause-once : goal.returns-then-sought-clause-once
returns-then-sought-clause-once g c = (
  held_id (seen c.get_pay.new.self) 0,
  λ x n.
      writes_other (held_id (seen c.get_pay.new.self) 0) x 0 (Slot 13) (seen c.get_pay.new.self) (seen c.store.new.self) c.in_ok-store.ensures.ok n
      ∙ ap (λ q. object_at q x) ((ap (λ (v : Seen). v.graph) c.in_ok-before.ensures.same ∙ c.in_ok-read-2.ensures.loads.graph) ∙ c.in_ok-sought.ensures.leaf.graph ∙ c.in_ok-read.ensures.loads.graph),
)

pub returns-clause-once : goal.returns-clause-once
returns-clause-once g c = (
  held_id (seen c.read-3.new.self) c.in_ok-sought.sought.register,
  λ x n.
      writes_other (held_id (seen c.read-3.new.self) c.in_ok-sought.sought.register) x (held_id (seen c.read-3.new.self) 1) (Slot c.in_ok-sought.sought.slot) (seen c.read-3.new.self) (seen c.store-2.new.self) c.in_ok-store-2.ensures.ok n
      ∙ ap (λ q. object_at q x) (c.in_ok-read-3.ensures.loads.graph ∙ (ap (λ (v : Seen). v.graph) c.in_ok-before.ensures.same ∙ c.in_ok-read-2.ensures.loads.graph) ∙ c.in_ok-sought.ensures.leaf.graph ∙ c.in_ok-read.ensures.loads.graph),
)

-- ---- the calls

pub returns-then-branch-eq0-clause-asks : goal.returns-then-branch-eq0-clause-asks
returns-then-branch-eq0-clause-asks g c = λ pairs m.
    let few : 1 ≤ 330 = omega arith in
    let empty = empty_map (seen c.args.client.now) 13 c.in_ok-read.field-0 pairs c.requires.rooted m c.in_ok-read.ensures.ok c.if-branch-eq0.true in
    (_, (nothing (ap (value_of c.args.key) empty), asks_within few c.in_ok-read.ensures.asks))

pub returns-then-sought-key-clause-asks : goal.returns-then-sought-key-clause-asks
returns-then-sought-key-clause-asks g c = λ pairs m.
    let few : 1 + 323 ≤ 330 = omega arith in
    (_, (nothing (sym (sought_missing c.args.key c.in_ok-sought.sought.found c.in_ok-sought.sought.side c.in_ok-sought.sought.register c.in_ok-sought.sought.slot c.in_ok-sought.sought.only (seen c.args.client.now) (seen c.read.new.self) (seen c.seek.new.client) pairs c.in_ok-sought.ensures.leaf c.in_ok-read.ensures.loads.graph m c.if-sought-key.true)), asks_within few (asks_then c.in_ok-read.ensures.asks c.in_ok-sought.ensures.asks)))

pub returns-then-sought-clause-asks : goal.returns-then-sought-clause-asks
returns-then-sought-clause-asks g c = λ pairs m.
    let few : 1 + (323 + (1 + (1 + 0))) ≤ 330 = omega arith in
    let has = sought_value c.args.key c.in_ok-sought.sought.found c.in_ok-sought.sought.side c.in_ok-sought.sought.register c.in_ok-sought.sought.slot c.in_ok-read-2.field-0 c.in_ok-before.before c.in_ok-sought.sought.only (seen c.args.client.now) (seen c.read.new.self) (seen c.seek.new.client) (seen c.read-2.new.self) pairs c.in_ok-sought.ensures.leaf c.in_ok-read.ensures.loads.graph m c.if-sought-key.false c.in_ok-read-2.ensures.ok c.in_ok-read-2.ensures.loads c.in_ok-before.ensures.ok in
    (_, (unhangs (is_there c.in_ok-before.before pairs c.args.key has) 0 13 None, asks_within few (asks_then c.in_ok-read.ensures.asks (asks_then c.in_ok-sought.ensures.asks (asks_then c.in_ok-read-2.ensures.asks (asks_then c.in_ok-before.ensures.asks c.in_ok-store.ensures.asks))))))

pub returns-clause-asks : goal.returns-clause-asks
returns-clause-asks g c = λ pairs m.
    let few : 1 + (323 + (1 + (1 + (1 + 0)))) ≤ 330 = omega arith in
    let has = sought_value c.args.key c.in_ok-sought.sought.found c.in_ok-sought.sought.side c.in_ok-sought.sought.register c.in_ok-sought.sought.slot c.in_ok-read-2.field-0 c.in_ok-before.before c.in_ok-sought.sought.only (seen c.args.client.now) (seen c.read.new.self) (seen c.seek.new.client) (seen c.read-2.new.self) pairs c.in_ok-sought.ensures.leaf c.in_ok-read.ensures.loads.graph m c.if-sought-key.false c.in_ok-read-2.ensures.ok c.in_ok-read-2.ensures.loads c.in_ok-before.ensures.ok in
    (_, (unhangs (is_there c.in_ok-before.before pairs c.args.key has) c.in_ok-sought.sought.register c.in_ok-sought.sought.slot (Some 1), asks_within few (asks_then c.in_ok-read.ensures.asks (asks_then c.in_ok-sought.ensures.asks (asks_then c.in_ok-read-2.ensures.asks (asks_then c.in_ok-before.ensures.asks (asks_then c.in_ok-read-3.ensures.asks c.in_ok-store-2.ensures.asks)))))))

-- ---- refusals

pub returns-in_err-read-clause-refused : goal.returns-in_err-read-clause-refused
returns-in_err-read-clause-refused g c = out c.from_residual.result _ c.from_residual.ensures.1 (c.in_err-read.ensures.refused).fails

pub returns-in_err-read-clause-rooted : goal.returns-in_err-read-clause-rooted
returns-in_err-read-clause-rooted g c = (c.in_err-read.ensures.refused).fails.rooted ∙ c.requires.rooted

pub returns-in_err-read-clause-never_full : goal.returns-in_err-read-clause-never_full
returns-in_err-read-clause-never_full g c = out c.from_residual.result _ c.from_residual.ensures.1 (never_full (c.in_err-read.ensures.refused))

pub returns-in_err-sought-clause-refused : goal.returns-in_err-sought-clause-refused
returns-in_err-sought-clause-refused g c = out c.from_residual-in_err-sought.result _ c.from_residual-in_err-sought.ensures.1 (falls_after c.in_ok-read.ensures.asks c.in_err-sought.ensures.refused).fails

pub returns-in_err-sought-clause-rooted : goal.returns-in_err-sought-clause-rooted
returns-in_err-sought-clause-rooted g c = (falls_after c.in_ok-read.ensures.asks c.in_err-sought.ensures.refused).fails.rooted ∙ c.requires.rooted

pub returns-in_err-sought-clause-never_full : goal.returns-in_err-sought-clause-never_full
returns-in_err-sought-clause-never_full g c = out c.from_residual-in_err-sought.result _ c.from_residual-in_err-sought.ensures.1 (never_full (falls_after c.in_ok-read.ensures.asks c.in_err-sought.ensures.refused))

pub returns-in_err-read-2-clause-refused : goal.returns-in_err-read-2-clause-refused
returns-in_err-read-2-clause-refused g c = out c.from_residual-in_err-read-2.result _ c.from_residual-in_err-read-2.ensures.1 (falls_after c.in_ok-read.ensures.asks (falls_after c.in_ok-sought.ensures.asks c.in_err-read-2.ensures.refused)).fails

pub returns-in_err-read-2-clause-rooted : goal.returns-in_err-read-2-clause-rooted
returns-in_err-read-2-clause-rooted g c = (falls_after c.in_ok-read.ensures.asks (falls_after c.in_ok-sought.ensures.asks c.in_err-read-2.ensures.refused)).fails.rooted ∙ c.requires.rooted

pub returns-in_err-read-2-clause-never_full : goal.returns-in_err-read-2-clause-never_full
returns-in_err-read-2-clause-never_full g c = out c.from_residual-in_err-read-2.result _ c.from_residual-in_err-read-2.ensures.1 (never_full (falls_after c.in_ok-read.ensures.asks (falls_after c.in_ok-sought.ensures.asks c.in_err-read-2.ensures.refused)))

pub returns-in_err-before-clause-refused : goal.returns-in_err-before-clause-refused
returns-in_err-before-clause-refused g c = out c.from_residual-in_err-before.result _ c.from_residual-in_err-before.ensures.1 (falls_after c.in_ok-read.ensures.asks (falls_after c.in_ok-sought.ensures.asks (falls_after c.in_ok-read-2.ensures.asks c.in_err-before.ensures.refused))).fails

pub returns-in_err-before-clause-rooted : goal.returns-in_err-before-clause-rooted
returns-in_err-before-clause-rooted g c = (falls_after c.in_ok-read.ensures.asks (falls_after c.in_ok-sought.ensures.asks (falls_after c.in_ok-read-2.ensures.asks c.in_err-before.ensures.refused))).fails.rooted ∙ c.requires.rooted

pub returns-in_err-before-clause-never_full : goal.returns-in_err-before-clause-never_full
returns-in_err-before-clause-never_full g c = out c.from_residual-in_err-before.result _ c.from_residual-in_err-before.ensures.1 (never_full (falls_after c.in_ok-read.ensures.asks (falls_after c.in_ok-sought.ensures.asks (falls_after c.in_ok-read-2.ensures.asks c.in_err-before.ensures.refused))))

pub returns-in_err-store-clause-refused : goal.returns-in_err-store-clause-refused
returns-in_err-store-clause-refused g c = out c.from_residual-in_err-store.result _ c.from_residual-in_err-store.ensures.1 (falls_after c.in_ok-read.ensures.asks (falls_after c.in_ok-sought.ensures.asks (falls_after c.in_ok-read-2.ensures.asks (falls_after c.in_ok-before.ensures.asks c.in_err-store.ensures.refused)))).fails

pub returns-in_err-store-clause-rooted : goal.returns-in_err-store-clause-rooted
returns-in_err-store-clause-rooted g c = (falls_after c.in_ok-read.ensures.asks (falls_after c.in_ok-sought.ensures.asks (falls_after c.in_ok-read-2.ensures.asks (falls_after c.in_ok-before.ensures.asks c.in_err-store.ensures.refused)))).fails.rooted ∙ c.requires.rooted

pub returns-in_err-store-clause-never_full : goal.returns-in_err-store-clause-never_full
returns-in_err-store-clause-never_full g c = out c.from_residual-in_err-store.result _ c.from_residual-in_err-store.ensures.1 (never_full (falls_after c.in_ok-read.ensures.asks (falls_after c.in_ok-sought.ensures.asks (falls_after c.in_ok-read-2.ensures.asks (falls_after c.in_ok-before.ensures.asks c.in_err-store.ensures.refused)))))

pub returns-in_err-read-3-clause-refused : goal.returns-in_err-read-3-clause-refused
returns-in_err-read-3-clause-refused g c = out c.from_residual-in_err-read-3.result _ c.from_residual-in_err-read-3.ensures.1 (falls_after c.in_ok-read.ensures.asks (falls_after c.in_ok-sought.ensures.asks (falls_after c.in_ok-read-2.ensures.asks (falls_after c.in_ok-before.ensures.asks c.in_err-read-3.ensures.refused)))).fails

pub returns-in_err-read-3-clause-rooted : goal.returns-in_err-read-3-clause-rooted
returns-in_err-read-3-clause-rooted g c = (falls_after c.in_ok-read.ensures.asks (falls_after c.in_ok-sought.ensures.asks (falls_after c.in_ok-read-2.ensures.asks (falls_after c.in_ok-before.ensures.asks c.in_err-read-3.ensures.refused)))).fails.rooted ∙ c.requires.rooted

pub returns-in_err-read-3-clause-never_full : goal.returns-in_err-read-3-clause-never_full
returns-in_err-read-3-clause-never_full g c = out c.from_residual-in_err-read-3.result _ c.from_residual-in_err-read-3.ensures.1 (never_full (falls_after c.in_ok-read.ensures.asks (falls_after c.in_ok-sought.ensures.asks (falls_after c.in_ok-read-2.ensures.asks (falls_after c.in_ok-before.ensures.asks c.in_err-read-3.ensures.refused)))))

pub returns-in_err-store-2-clause-refused : goal.returns-in_err-store-2-clause-refused
returns-in_err-store-2-clause-refused g c = out c.from_residual-in_err-store-2.result _ c.from_residual-in_err-store-2.ensures.1 (falls_after c.in_ok-read.ensures.asks (falls_after c.in_ok-sought.ensures.asks (falls_after c.in_ok-read-2.ensures.asks (falls_after c.in_ok-before.ensures.asks (falls_after c.in_ok-read-3.ensures.asks c.in_err-store-2.ensures.refused))))).fails

pub returns-in_err-store-2-clause-rooted : goal.returns-in_err-store-2-clause-rooted
returns-in_err-store-2-clause-rooted g c = (falls_after c.in_ok-read.ensures.asks (falls_after c.in_ok-sought.ensures.asks (falls_after c.in_ok-read-2.ensures.asks (falls_after c.in_ok-before.ensures.asks (falls_after c.in_ok-read-3.ensures.asks c.in_err-store-2.ensures.refused))))).fails.rooted ∙ c.requires.rooted

pub returns-in_err-store-2-clause-never_full : goal.returns-in_err-store-2-clause-never_full
returns-in_err-store-2-clause-never_full g c = out c.from_residual-in_err-store-2.result _ c.from_residual-in_err-store-2.ensures.1 (never_full (falls_after c.in_ok-read.ensures.asks (falls_after c.in_ok-sought.ensures.asks (falls_after c.in_ok-read-2.ensures.asks (falls_after c.in_ok-before.ensures.asks (falls_after c.in_ok-read-3.ensures.asks c.in_err-store-2.ensures.refused))))))

pub returns-then-branch-eq0-clause-rooted : goal.returns-then-branch-eq0-clause-rooted
returns-then-branch-eq0-clause-rooted g c = (c.in_ok-read.ensures.asks).rooted ∙ c.requires.rooted

pub returns-then-sought-key-clause-rooted : goal.returns-then-sought-key-clause-rooted
returns-then-sought-key-clause-rooted g c = (asks_then c.in_ok-read.ensures.asks c.in_ok-sought.ensures.asks).rooted ∙ c.requires.rooted

pub returns-then-sought-clause-rooted : goal.returns-then-sought-clause-rooted
returns-then-sought-clause-rooted g c = (asks_then c.in_ok-read.ensures.asks (asks_then c.in_ok-sought.ensures.asks (asks_then c.in_ok-read-2.ensures.asks (asks_then c.in_ok-before.ensures.asks c.in_ok-store.ensures.asks)))).rooted ∙ c.requires.rooted

pub returns-clause-rooted : goal.returns-clause-rooted
returns-clause-rooted g c = (asks_then c.in_ok-read.ensures.asks (asks_then c.in_ok-sought.ensures.asks (asks_then c.in_ok-read-2.ensures.asks (asks_then c.in_ok-before.ensures.asks (asks_then c.in_ok-read-3.ensures.asks c.in_ok-store-2.ensures.asks))))).rooted ∙ c.requires.rooted
