use Rattle.object_map.specs.Clients.{seen, state_of, free_ids, Asks, fork_calls}
use Rattle.object_map.specs.Changes.{ids_needed}
use Rattle.object_map.specs.Changes.PutsBy.{sets, begins}
use Rattle.object_map.proofs.AskLaws.{seen_same, asks_then, asks_within, out, falls_after, never_full}
use Rattle.object_map.proofs.OthersLaws.{first_keeps, set_keeps, part_keeps, keeps_from}
use Rattle.object_map.proofs.CountLaws.{room_is, some_pairs, is_there, needs_none, needs_three}
use Rattle.object_map.proofs.GainLaws.{first_gains, set_gains, low_gains, high_gains}
use Rattle.object_map.proofs.MapTreeLaws.{map_of}
use Rattle.std.proofs.Common.{◌+◌, ◌≡◌, ◌≢◌, ◌<◌, ◌≤◌, ◌∷◌, [], refl, sym, ap, ◌∙◌, subst, arith, IsSome}
use Rattle.object_map.specs.Trees.{pairs_of}
use Rattle.object_map.specs.Maps.{slot_of}
use Rattle.object_map.specs.Seen.{Seen, at, held}
use Rattle.object_map.specs.Ways.{whole}
use Rattle.object_map.specs.Parting.{LeadsTo}
use Rattle.object_map.specs.Making.{MakesFork}
use Rattle.plain_model.specs.Graphs.{root}
use Rattle.object_map.proofs.WayLaws.{held_some}
use Rattle.object_map.proofs.GetLaws.{empty_map, HoldsMap, holds_map, holds_tree, cell_here, value_found, value_missing}
use Rattle.object_map.proofs.PartLaws.{hangs_same, hangs_full}
use Rattle.object_map.proofs.NextLaws.{leads_to, part_pairs, smaller_bit, critical_turned}
use Rattle.object_map.proofs.PutLaws.{empty_put, set_put, low_put, high_put, fork_others, parts_on}
use Rattle.object_map.proofs.getting.ObjectMap.put.Goals as goal
use Rattle.object_map.proofs.getting.ObjectMap.put.Goals.{then-key-found+in_ok-make_fork, else-key-found+in_ok-make_fork-2}

pub returns-then-branch-eq0-clause-map : goal.returns-then-branch-eq0-clause-map
returns-then-branch-eq0-clause-map g c = λ pairs m.
    map_of (empty_put c.args.key c.args.value c.in_ok-read.field-0 (seen c.args.client.now) (seen c.read.new.self) (seen c.make_leaf.new.client) (seen c.store.new.self) pairs c.ranges.key.fits c.requires.rooted (room_is (seen c.args.client.now) c.know_slots.ensures.room) m c.in_ok-read.ensures.ok c.if-branch-eq0.true c.in_ok-read.ensures.loads c.in_ok-make_leaf.ensures.leaf c.in_ok-store.ensures.ok)

pub descend-requires-clause-tree : goal.descend-requires-clause-tree
descend-requires-clause-tree g c κs within =
    holds_tree (seen c.read.new.self) c.requires.map.0 (holds_map (seen c.args.client.now) (seen c.read.new.self) 13 c.in_ok-read.field-0 c.requires.map.0 c.requires.rooted c.requires.map.1 c.in_ok-read.ensures.ok c.if-branch-eq0.false c.in_ok-read.ensures.loads)

pub get_pay-requires-clause-full : goal.get_pay-requires-clause-full
get_pay-requires-clause-full g c κs within = held_some (seen c.read-then-found-key.new.self) 1 c.in_ok-found.ensures.leaf.cell (cell_here c.args.key c.in_ok-found.found c.in_ok-read-2.field-0 (seen c.read.new.self) (seen c.descend.new.client) (seen c.read-then-found-key.new.self) c.in_ok-found.ensures.leaf c.in_ok-read-2.ensures.ok c.in_ok-read-2.ensures.loads)

pub set_pay-requires-clause-full : goal.set_pay-requires-clause-full
set_pay-requires-clause-full g c κs within = held_some (seen c.get_pay.new.self) 1 c.in_ok-found.ensures.leaf.cell (ap (λ v. held v 1) c.in_ok-before.ensures.same ∙ cell_here c.args.key c.in_ok-found.found c.in_ok-read-2.field-0 (seen c.read.new.self) (seen c.descend.new.client) (seen c.read-then-found-key.new.self) c.in_ok-found.ensures.leaf c.in_ok-read-2.ensures.ok c.in_ok-read-2.ensures.loads)

pub returns-then-found-key-clause-before : goal.returns-then-found-key-clause-before
returns-then-found-key-clause-before g c = λ pairs m.
    let t : HoldsMap (seen c.read.new.self) pairs = holds_map (seen c.args.client.now) (seen c.read.new.self) 13 c.in_ok-read.field-0 pairs c.requires.rooted m c.in_ok-read.ensures.ok c.if-branch-eq0.false c.in_ok-read.ensures.loads in
    value_found c.args.key c.in_ok-found.found c.in_ok-read-2.field-0 c.in_ok-before.before (seen c.read.new.self) (seen c.descend.new.client) (seen c.read-then-found-key.new.self) pairs t c.in_ok-found.ensures.leaf c.if-found-key.true c.in_ok-read-2.ensures.ok c.in_ok-read-2.ensures.loads c.in_ok-before.ensures.ok

pub returns-then-found-key-clause-map : goal.returns-then-found-key-clause-map
returns-then-found-key-clause-map g c = λ pairs m.
    map_of (set_put c.args.key c.in_ok-found.found c.in_ok-read.field-0 c.in_ok-read-2.field-0 c.args.value (seen c.args.client.now) (seen c.read.new.self) (seen c.descend.new.client) (seen c.read-then-found-key.new.self) (seen c.get_pay.new.self) (seen c.set_pay.new.self) pairs c.requires.rooted m c.in_ok-read.ensures.ok c.if-branch-eq0.false c.in_ok-read.ensures.loads c.in_ok-found.ensures.leaf c.if-found-key.true
    c.in_ok-read-2.ensures.ok c.in_ok-read-2.ensures.loads c.in_ok-before.ensures.same c.in_ok-set_pay.ensures.ok)

pub part-requires-clause-tree : goal.part-requires-clause-tree
part-requires-clause-tree g c κs within = leads_to 13 c.args.key c.in_ok-found.found c.in_ok-read.field-0 (seen c.args.client.now) (seen c.read.new.self) (seen c.descend.new.client) c.requires.rooted c.in_ok-read.ensures.ok c.if-branch-eq0.false c.in_ok-read.ensures.loads c.in_ok-found.ensures.leaf

-- the tree hangs where it hung, after a new leaf and a new inner object
pub store-requires-2-clause-full : goal.store-requires-2-clause-full
store-requires-2-clause-full g c κs within =
    let full : (v : Seen) → held v 2 ≡ held (seen c.part.new.client) 2 → held v 0 ≡ held (seen c.part.new.client) 0 → IsSome (held v c.in_ok-parting.parting.register) =
    λ v e f. hangs_full 2 v c.in_ok-parting.ensures.way.turns c.in_ok-parting.parting.register c.in_ok-parting.parting.slot (hangs_same (seen c.part.new.client) v c.in_ok-parting.ensures.way.turns c.in_ok-parting.parting.register c.in_ok-parting.parting.slot e c.in_ok-parting.ensures.way.hangs) (f ∙ c.in_ok-parting.ensures.way.rooted) in
    elim c.if-key-found.branch [
      | then-key-found+in_ok-make_fork w ↦ (let n : MakesFork c.args.key c.args.value c.in_ok-parting.parting.bit 3 1 (seen c.part.new.client) (seen c.if-key-found.client) = subst (λ v. MakesFork c.args.key c.args.value c.in_ok-parting.parting.bit 3 1 (seen c.part.new.client) v) (seen_same (sym w.client-is)) (w.in_ok-make_fork.ensures.low refl) in full (seen c.if-key-found.client) (fork_others 2 n (omega arith)) (fork_others 0 n (omega arith)))
      | else-key-found+in_ok-make_fork-2 w ↦ (let n : MakesFork c.args.key c.args.value c.in_ok-parting.parting.bit 1 3 (seen c.part.new.client) (seen c.if-key-found.client) = subst (λ v. MakesFork c.args.key c.args.value c.in_ok-parting.parting.bit 1 3 (seen c.part.new.client) v) (seen_same (sym w.client-is)) (w.in_ok-make_fork-2.ensures.high refl) in full (seen c.if-key-found.client) (fork_others 2 n (omega arith)) (fork_others 0 n (omega arith)))
    ]

pub returns-clause-before : goal.returns-clause-before
returns-clause-before g c = λ pairs m.
    let t : HoldsMap (seen c.read.new.self) pairs = holds_map (seen c.args.client.now) (seen c.read.new.self) 13 c.in_ok-read.field-0 pairs c.requires.rooted m c.in_ok-read.ensures.ok c.if-branch-eq0.false c.in_ok-read.ensures.loads in
    value_missing c.args.key c.in_ok-found.found (seen c.read.new.self) (seen c.descend.new.client) pairs t c.in_ok-found.ensures.leaf c.if-found-key.false

pub returns-clause-map : goal.returns-clause-map
returns-clause-map g c = λ pairs m.
    let p : pairs ≡ pairs_of (whole c.in_ok-parting.ensures.way.turns c.in_ok-parting.ensures.way.tree) = part_pairs 13 c.args.key c.in_ok-found.found c.in_ok-parting.parting.bit c.in_ok-parting.parting.register c.in_ok-parting.parting.slot c.in_ok-read.field-0 c.in_ok-parting.parting.right (seen c.args.client.now) (seen c.read.new.self) (seen c.descend.new.client) (seen c.part.new.client) pairs c.in_ok-parting.ensures.way c.requires.rooted m c.in_ok-read.ensures.ok c.if-branch-eq0.false (c.in_ok-found.ensures.leaf.graph ∙ c.in_ok-read.ensures.loads.graph) refl in
    let tree : LeadsTo 13 c.args.key c.in_ok-found.found (seen c.descend.new.client) = leads_to 13 c.args.key c.in_ok-found.found c.in_ok-read.field-0 (seen c.args.client.now) (seen c.read.new.self) (seen c.descend.new.client) c.requires.rooted c.in_ok-read.ensures.ok c.if-branch-eq0.false c.in_ok-read.ensures.loads c.in_ok-found.ensures.leaf in
    let named : slot_of (at (seen c.descend.new.client) root) 13 ≢ 0 = λ z. tree.named (sym tree.under ∙ z) in
    elim c.if-key-found.branch [
      | then-key-found+in_ok-make_fork w ↦ (let n : MakesFork c.args.key c.args.value c.in_ok-parting.parting.bit 3 1 (seen c.part.new.client) (seen c.if-key-found.client) = subst (λ v. MakesFork c.args.key c.args.value c.in_ok-parting.parting.bit 3 1 (seen c.part.new.client) v) (seen_same (sym w.client-is)) (w.in_ok-make_fork.ensures.low refl) in
          map_of (low_put c.args.key c.in_ok-found.found c.args.value c.in_ok-parting.parting.bit c.in_ok-parting.parting.register c.in_ok-parting.parting.slot c.in_ok-parting.parting.right (seen c.descend.new.client) (seen c.part.new.client) n.between (seen c.if-key-found.client) (seen c.store-2.new.self) pairs c.ranges.key.fits c.in_ok-parting.ensures.way c.in_ok-parting.ensures.critical w.if-key-found.true n.leaf n.inner c.in_ok-store-2.ensures.ok named p))
      | else-key-found+in_ok-make_fork-2 w ↦ (let n : MakesFork c.args.key c.args.value c.in_ok-parting.parting.bit 1 3 (seen c.part.new.client) (seen c.if-key-found.client) = subst (λ v. MakesFork c.args.key c.args.value c.in_ok-parting.parting.bit 1 3 (seen c.part.new.client) v) (seen_same (sym w.client-is)) (w.in_ok-make_fork-2.ensures.high refl) in
          let l : c.in_ok-found.found < c.args.key = omega (arith, w.if-key-found.false, c.if-found-key.false) in
          map_of (high_put c.args.key c.in_ok-found.found c.args.value c.in_ok-parting.parting.bit c.in_ok-parting.parting.register c.in_ok-parting.parting.slot c.in_ok-parting.parting.right (seen c.descend.new.client) (seen c.part.new.client) n.between (seen c.if-key-found.client) (seen c.store-2.new.self) pairs c.ranges.key.fits c.in_ok-parting.ensures.way c.in_ok-parting.ensures.critical l n.leaf n.inner c.in_ok-store-2.ensures.ok named p))
    ]

-- ---- what else is as it was

pub returns-then-branch-eq0-clause-outside : goal.returns-then-branch-eq0-clause-outside
returns-then-branch-eq0-clause-outside g c =
    first_keeps c.args.key c.args.value c.in_ok-read.field-0 (seen c.args.client.now) (seen c.read.new.self) (seen c.make_leaf.new.client) (seen c.store.new.self) c.requires.rooted (room_is (seen c.args.client.now) c.know_slots.ensures.room) c.in_ok-read.ensures.loads c.in_ok-make_leaf.ensures.leaf c.in_ok-store.ensures.ok

pub returns-then-found-key-clause-outside : goal.returns-then-found-key-clause-outside
returns-then-found-key-clause-outside g c =
    set_keeps c.args.key c.in_ok-found.found c.in_ok-read.field-0 c.in_ok-read-2.field-0 c.args.value (seen c.args.client.now) (seen c.read.new.self) (seen c.descend.new.client) (seen c.read-then-found-key.new.self) (seen c.get_pay.new.self) (seen c.set_pay.new.self) c.requires.rooted c.in_ok-read.ensures.ok c.if-branch-eq0.false c.in_ok-read.ensures.loads c.in_ok-found.ensures.leaf
    c.in_ok-read-2.ensures.ok c.in_ok-read-2.ensures.loads c.in_ok-before.ensures.same c.in_ok-set_pay.ensures.ok

pub returns-clause-outside : goal.returns-clause-outside
returns-clause-outside g c =
    let tree : LeadsTo 13 c.args.key c.in_ok-found.found (seen c.descend.new.client) = leads_to 13 c.args.key c.in_ok-found.found c.in_ok-read.field-0 (seen c.args.client.now) (seen c.read.new.self) (seen c.descend.new.client) c.requires.rooted c.in_ok-read.ensures.ok c.if-branch-eq0.false c.in_ok-read.ensures.loads c.in_ok-found.ensures.leaf in
    let named : slot_of (at (seen c.descend.new.client) root) 13 ≢ 0 = λ z. tree.named (sym tree.under ∙ z) in
    keeps_from (seen c.args.client.now) (seen c.descend.new.client) (seen c.store-2.new.self) (c.in_ok-found.ensures.leaf.graph ∙ c.in_ok-read.ensures.loads.graph) (elim c.if-key-found.branch [
      | then-key-found+in_ok-make_fork w ↦ (let n : MakesFork c.args.key c.args.value c.in_ok-parting.parting.bit 3 1 (seen c.part.new.client) (seen c.if-key-found.client) = subst (λ v. MakesFork c.args.key c.args.value c.in_ok-parting.parting.bit 3 1 (seen c.part.new.client) v) (seen_same (sym w.client-is)) (w.in_ok-make_fork.ensures.low refl) in
          part_keeps c.args.key c.in_ok-found.found c.args.value c.in_ok-parting.parting.bit c.in_ok-parting.parting.register c.in_ok-parting.parting.slot 3 1 c.in_ok-parting.parting.right (seen c.descend.new.client) (seen c.part.new.client) n.between (seen c.if-key-found.client) (seen c.store-2.new.self) c.in_ok-parting.ensures.way n.leaf n.inner c.in_ok-store-2.ensures.ok named)
      | else-key-found+in_ok-make_fork-2 w ↦ (let n : MakesFork c.args.key c.args.value c.in_ok-parting.parting.bit 1 3 (seen c.part.new.client) (seen c.if-key-found.client) = subst (λ v. MakesFork c.args.key c.args.value c.in_ok-parting.parting.bit 1 3 (seen c.part.new.client) v) (seen_same (sym w.client-is)) (w.in_ok-make_fork-2.ensures.high refl) in
          part_keeps c.args.key c.in_ok-found.found c.args.value c.in_ok-parting.parting.bit c.in_ok-parting.parting.register c.in_ok-parting.parting.slot 1 3 c.in_ok-parting.parting.right (seen c.descend.new.client) (seen c.part.new.client) n.between (seen c.if-key-found.client) (seen c.store-2.new.self) c.in_ok-parting.ensures.way n.leaf n.inner c.in_ok-store-2.ensures.ok named)
    ])

-- ---- the objects that the map gets

pub returns-then-branch-eq0-clause-gains : goal.returns-then-branch-eq0-clause-gains
returns-then-branch-eq0-clause-gains g c = λ pairs m.
    let empty = empty_map (seen c.args.client.now) 13 c.in_ok-read.field-0 pairs c.requires.rooted m c.in_ok-read.ensures.ok c.if-branch-eq0.true in (
      c.in_ok-make_leaf.ensures.leaf.leaf ∷ c.in_ok-make_leaf.ensures.leaf.cell ∷ [],
      (
        sym (ap (ids_needed c.args.key) empty),
        first_gains c.args.key c.args.value c.in_ok-read.field-0 (seen c.args.client.now) (seen c.read.new.self) (seen c.make_leaf.new.client) (seen c.store.new.self) pairs c.ranges.key.fits c.requires.rooted (room_is (seen c.args.client.now) c.know_slots.ensures.room) m c.in_ok-read.ensures.ok c.if-branch-eq0.true c.in_ok-read.ensures.loads c.in_ok-make_leaf.ensures.leaf c.in_ok-store.ensures.ok,
      ),
    )

pub returns-then-found-key-clause-gains : goal.returns-then-found-key-clause-gains
returns-then-found-key-clause-gains g c = λ pairs m.
    let t : HoldsMap (seen c.read.new.self) pairs = holds_map (seen c.args.client.now) (seen c.read.new.self) 13 c.in_ok-read.field-0 pairs c.requires.rooted m c.in_ok-read.ensures.ok c.if-branch-eq0.false c.in_ok-read.ensures.loads in
    let has = value_found c.args.key c.in_ok-found.found c.in_ok-read-2.field-0 c.in_ok-before.before (seen c.read.new.self) (seen c.descend.new.client) (seen c.read-then-found-key.new.self) pairs t c.in_ok-found.ensures.leaf c.if-found-key.true c.in_ok-read-2.ensures.ok c.in_ok-read-2.ensures.loads c.in_ok-before.ensures.ok in (
      [],
      (
        needs_none c.args.key c.in_ok-before.before pairs has,
        set_gains c.args.key c.in_ok-found.found c.in_ok-read.field-0 c.in_ok-read-2.field-0 c.args.value (seen c.args.client.now) (seen c.read.new.self) (seen c.descend.new.client) (seen c.read-then-found-key.new.self) (seen c.get_pay.new.self) (seen c.set_pay.new.self) pairs c.requires.rooted m c.in_ok-read.ensures.ok c.if-branch-eq0.false c.in_ok-read.ensures.loads c.in_ok-found.ensures.leaf c.if-found-key.true
            c.in_ok-read-2.ensures.ok c.in_ok-read-2.ensures.loads c.in_ok-before.ensures.same c.in_ok-set_pay.ensures.ok,
      ),
    )

pub returns-clause-gains : goal.returns-clause-gains
returns-clause-gains g c = λ pairs m.
    let p : pairs ≡ pairs_of (whole c.in_ok-parting.ensures.way.turns c.in_ok-parting.ensures.way.tree) = part_pairs 13 c.args.key c.in_ok-found.found c.in_ok-parting.parting.bit c.in_ok-parting.parting.register c.in_ok-parting.parting.slot c.in_ok-read.field-0 c.in_ok-parting.parting.right (seen c.args.client.now) (seen c.read.new.self) (seen c.descend.new.client) (seen c.part.new.client) pairs c.in_ok-parting.ensures.way c.requires.rooted m c.in_ok-read.ensures.ok c.if-branch-eq0.false (c.in_ok-found.ensures.leaf.graph ∙ c.in_ok-read.ensures.loads.graph) refl in
    let tree : LeadsTo 13 c.args.key c.in_ok-found.found (seen c.descend.new.client) = leads_to 13 c.args.key c.in_ok-found.found c.in_ok-read.field-0 (seen c.args.client.now) (seen c.read.new.self) (seen c.descend.new.client) c.requires.rooted c.in_ok-read.ensures.ok c.if-branch-eq0.false c.in_ok-read.ensures.loads c.in_ok-found.ensures.leaf in
    let named : slot_of (at (seen c.descend.new.client) root) 13 ≢ 0 = λ z. tree.named (sym tree.under ∙ z) in
    let t : HoldsMap (seen c.read.new.self) pairs = holds_map (seen c.args.client.now) (seen c.read.new.self) 13 c.in_ok-read.field-0 pairs c.requires.rooted m c.in_ok-read.ensures.ok c.if-branch-eq0.false c.in_ok-read.ensures.loads in
    let none = sym (value_missing c.args.key c.in_ok-found.found (seen c.read.new.self) (seen c.descend.new.client) pairs t c.in_ok-found.ensures.leaf c.if-found-key.false) in
    let three : 3 ≡ ids_needed c.args.key pairs = sym (needs_three c.args.key pairs none (λ e. some_pairs t.tree (sym t.same ∙ e))) in
    elim c.if-key-found.branch [
      | then-key-found+in_ok-make_fork w ↦ (let n : MakesFork c.args.key c.args.value c.in_ok-parting.parting.bit 3 1 (seen c.part.new.client) (seen c.if-key-found.client) = subst (λ v. MakesFork c.args.key c.args.value c.in_ok-parting.parting.bit 3 1 (seen c.part.new.client) v) (seen_same (sym w.client-is)) (w.in_ok-make_fork.ensures.low refl) in (
        n.leaf.leaf ∷ n.leaf.cell ∷ n.inner.id ∷ [],
        (
          three,
          low_gains c.args.key c.in_ok-found.found c.args.value c.in_ok-parting.parting.bit c.in_ok-parting.parting.register c.in_ok-parting.parting.slot c.in_ok-parting.parting.right (seen c.args.client.now) (seen c.descend.new.client) (seen c.part.new.client) n.between (seen c.if-key-found.client) (seen c.store-2.new.self) pairs (c.in_ok-found.ensures.leaf.graph ∙ c.in_ok-read.ensures.loads.graph) c.ranges.key.fits c.in_ok-parting.ensures.way c.in_ok-parting.ensures.critical w.if-key-found.true n.leaf n.inner c.in_ok-store-2.ensures.ok named p,
        ),
      ))
      | else-key-found+in_ok-make_fork-2 w ↦ (let n : MakesFork c.args.key c.args.value c.in_ok-parting.parting.bit 1 3 (seen c.part.new.client) (seen c.if-key-found.client) = subst (λ v. MakesFork c.args.key c.args.value c.in_ok-parting.parting.bit 1 3 (seen c.part.new.client) v) (seen_same (sym w.client-is)) (w.in_ok-make_fork-2.ensures.high refl) in
          let l : c.in_ok-found.found < c.args.key = omega (arith, w.if-key-found.false, c.if-found-key.false) in (
            n.leaf.leaf ∷ n.leaf.cell ∷ n.inner.id ∷ [],
            (
              three,
              high_gains c.args.key c.in_ok-found.found c.args.value c.in_ok-parting.parting.bit c.in_ok-parting.parting.register c.in_ok-parting.parting.slot c.in_ok-parting.parting.right (seen c.args.client.now) (seen c.descend.new.client) (seen c.part.new.client) n.between (seen c.if-key-found.client) (seen c.store-2.new.self) pairs (c.in_ok-found.ensures.leaf.graph ∙ c.in_ok-read.ensures.loads.graph) c.ranges.key.fits c.in_ok-parting.ensures.way c.in_ok-parting.ensures.critical l n.leaf n.inner c.in_ok-store-2.ensures.ok named p,
            ),
          ))
    ]

-- ---- the calls

pub returns-then-branch-eq0-clause-asks : goal.returns-then-branch-eq0-clause-asks
returns-then-branch-eq0-clause-asks g c = λ pairs m.
    let few : 1 + (0 + 0) ≤ 528 = omega arith in
    (_, (begins (empty_map (seen c.args.client.now) 13 c.in_ok-read.field-0 pairs c.requires.rooted m c.in_ok-read.ensures.ok c.if-branch-eq0.true), asks_within few (asks_then c.in_ok-read.ensures.asks (asks_then c.in_ok-make_leaf.ensures.asks c.in_ok-store.ensures.asks))))

pub returns-then-found-key-clause-asks : goal.returns-then-found-key-clause-asks
returns-then-found-key-clause-asks g c = λ pairs m.
    let few : 1 + (194 + (1 + (1 + 0))) ≤ 528 = omega arith in
    let t : HoldsMap (seen c.read.new.self) pairs = holds_map (seen c.args.client.now) (seen c.read.new.self) 13 c.in_ok-read.field-0 pairs c.requires.rooted m c.in_ok-read.ensures.ok c.if-branch-eq0.false c.in_ok-read.ensures.loads in
    let has = value_found c.args.key c.in_ok-found.found c.in_ok-read-2.field-0 c.in_ok-before.before (seen c.read.new.self) (seen c.descend.new.client) (seen c.read-then-found-key.new.self) pairs t c.in_ok-found.ensures.leaf c.if-found-key.true c.in_ok-read-2.ensures.ok c.in_ok-read-2.ensures.loads c.in_ok-before.ensures.ok in
    (_, (sets (is_there c.in_ok-before.before pairs c.args.key has), asks_within few (asks_then c.in_ok-read.ensures.asks (asks_then c.in_ok-found.ensures.asks (asks_then c.in_ok-read-2.ensures.asks (asks_then c.in_ok-before.ensures.asks c.in_ok-set_pay.ensures.asks))))))

pub returns-clause-asks : goal.returns-clause-asks
returns-clause-asks g c = λ pairs m.
    let few : 1 + (194 + (323 + (0 + 0))) ≤ 528 = omega arith in
    let t : HoldsMap (seen c.read.new.self) pairs = holds_map (seen c.args.client.now) (seen c.read.new.self) 13 c.in_ok-read.field-0 pairs c.requires.rooted m c.in_ok-read.ensures.ok c.if-branch-eq0.false c.in_ok-read.ensures.loads in
    let none = sym (value_missing c.args.key c.in_ok-found.found (seen c.read.new.self) (seen c.descend.new.client) pairs t c.in_ok-found.ensures.leaf c.if-found-key.false) in
    let some : pairs ≢ [] = λ e. some_pairs t.tree (sym t.same ∙ e) in
    elim c.if-key-found.branch [
      | then-key-found+in_ok-make_fork w ↦ (
        _,
        (
          parts_on c.args.key c.args.value c.in_ok-parting.parting.bit 0 c.in_ok-parting.parting.register c.in_ok-parting.parting.slot pairs none some (smaller_bit c.in_ok-parting.parting.bit c.args.key c.in_ok-found.found c.in_ok-parting.ensures.critical w.if-key-found.true).0,
          asks_within few (asks_then c.in_ok-read.ensures.asks (asks_then c.in_ok-found.ensures.asks (asks_then c.in_ok-parting.ensures.asks (asks_then (subst (λ v. Asks 0 (fork_calls c.args.key c.args.value c.in_ok-parting.parting.bit 0) c.part.new.client v) (sym w.client-is) w.in_ok-make_fork.ensures.asks) c.in_ok-store-2.ensures.asks)))),
        ),
      )
      | else-key-found+in_ok-make_fork-2 w ↦ (let l : c.in_ok-found.found < c.args.key = omega (arith, w.if-key-found.false, c.if-found-key.false) in (
        _,
        (
          parts_on c.args.key c.args.value c.in_ok-parting.parting.bit 1 c.in_ok-parting.parting.register c.in_ok-parting.parting.slot pairs none some (smaller_bit c.in_ok-parting.parting.bit c.in_ok-found.found c.args.key (critical_turned c.in_ok-parting.parting.bit c.args.key c.in_ok-found.found c.in_ok-parting.ensures.critical) l).1,
          asks_within few (asks_then c.in_ok-read.ensures.asks (asks_then c.in_ok-found.ensures.asks (asks_then c.in_ok-parting.ensures.asks (asks_then (subst (λ v. Asks 0 (fork_calls c.args.key c.args.value c.in_ok-parting.parting.bit 1) c.part.new.client v) (sym w.client-is) w.in_ok-make_fork-2.ensures.asks) c.in_ok-store-2.ensures.asks)))),
        ),
      ))
    ]

-- ---- refusals

pub returns-in_err-read-clause-refused : goal.returns-in_err-read-clause-refused
returns-in_err-read-clause-refused g c = out c.from_residual.result _ c.from_residual.ensures.1 (c.in_err-read.ensures.refused).fails

pub returns-in_err-read-clause-rooted : goal.returns-in_err-read-clause-rooted
returns-in_err-read-clause-rooted g c = (c.in_err-read.ensures.refused).fails.rooted ∙ c.requires.rooted

pub returns-in_err-read-clause-full : goal.returns-in_err-read-clause-full
returns-in_err-read-clause-full g c = out c.from_residual.result _ c.from_residual.ensures.1 (λ e pairs m. absurd (never_full (c.in_err-read.ensures.refused) e))

pub returns-in_err-make_leaf-clause-refused : goal.returns-in_err-make_leaf-clause-refused
returns-in_err-make_leaf-clause-refused g c = out c.from_residual-in_err-make_leaf.result _ c.from_residual-in_err-make_leaf.ensures.1 (falls_after c.in_ok-read.ensures.asks c.in_err-make_leaf.ensures.refused).fails

pub returns-in_err-make_leaf-clause-rooted : goal.returns-in_err-make_leaf-clause-rooted
returns-in_err-make_leaf-clause-rooted g c = (falls_after c.in_ok-read.ensures.asks c.in_err-make_leaf.ensures.refused).fails.rooted ∙ c.requires.rooted

pub returns-in_err-make_leaf-clause-full : goal.returns-in_err-make_leaf-clause-full
returns-in_err-make_leaf-clause-full g c = out c.from_residual-in_err-make_leaf.result _ c.from_residual-in_err-make_leaf.ensures.1 (λ e pairs m. subst (λ ps. free_ids (state_of c.args.client.now) < ids_needed c.args.key ps) (sym (empty_map (seen c.args.client.now) 13 c.in_ok-read.field-0 pairs c.requires.rooted m c.in_ok-read.ensures.ok c.if-branch-eq0.true)) ((falls_after c.in_ok-read.ensures.asks c.in_err-make_leaf.ensures.refused).short e))

pub returns-in_err-store-clause-refused : goal.returns-in_err-store-clause-refused
returns-in_err-store-clause-refused g c = out c.from_residual-in_err-store.result _ c.from_residual-in_err-store.ensures.1 (falls_after c.in_ok-read.ensures.asks (falls_after c.in_ok-make_leaf.ensures.asks c.in_err-store.ensures.refused)).fails

pub returns-in_err-store-clause-rooted : goal.returns-in_err-store-clause-rooted
returns-in_err-store-clause-rooted g c = (falls_after c.in_ok-read.ensures.asks (falls_after c.in_ok-make_leaf.ensures.asks c.in_err-store.ensures.refused)).fails.rooted ∙ c.requires.rooted

pub returns-in_err-store-clause-full : goal.returns-in_err-store-clause-full
returns-in_err-store-clause-full g c = out c.from_residual-in_err-store.result _ c.from_residual-in_err-store.ensures.1 (λ e pairs m. subst (λ ps. free_ids (state_of c.args.client.now) < ids_needed c.args.key ps) (sym (empty_map (seen c.args.client.now) 13 c.in_ok-read.field-0 pairs c.requires.rooted m c.in_ok-read.ensures.ok c.if-branch-eq0.true)) ((falls_after c.in_ok-read.ensures.asks (falls_after c.in_ok-make_leaf.ensures.asks c.in_err-store.ensures.refused)).short e))

pub returns-in_err-found-clause-refused : goal.returns-in_err-found-clause-refused
returns-in_err-found-clause-refused g c = out c.from_residual-in_err-found.result _ c.from_residual-in_err-found.ensures.1 (falls_after c.in_ok-read.ensures.asks c.in_err-found.ensures.refused).fails

pub returns-in_err-found-clause-rooted : goal.returns-in_err-found-clause-rooted
returns-in_err-found-clause-rooted g c = (falls_after c.in_ok-read.ensures.asks c.in_err-found.ensures.refused).fails.rooted ∙ c.requires.rooted

pub returns-in_err-found-clause-full : goal.returns-in_err-found-clause-full
returns-in_err-found-clause-full g c = out c.from_residual-in_err-found.result _ c.from_residual-in_err-found.ensures.1 (λ e pairs m. absurd (never_full (falls_after c.in_ok-read.ensures.asks c.in_err-found.ensures.refused) e))

pub returns-in_err-read-2-clause-refused : goal.returns-in_err-read-2-clause-refused
returns-in_err-read-2-clause-refused g c = out c.from_residual-in_err-read-2.result _ c.from_residual-in_err-read-2.ensures.1 (falls_after c.in_ok-read.ensures.asks (falls_after c.in_ok-found.ensures.asks c.in_err-read-2.ensures.refused)).fails

pub returns-in_err-read-2-clause-rooted : goal.returns-in_err-read-2-clause-rooted
returns-in_err-read-2-clause-rooted g c = (falls_after c.in_ok-read.ensures.asks (falls_after c.in_ok-found.ensures.asks c.in_err-read-2.ensures.refused)).fails.rooted ∙ c.requires.rooted

pub returns-in_err-read-2-clause-full : goal.returns-in_err-read-2-clause-full
returns-in_err-read-2-clause-full g c = out c.from_residual-in_err-read-2.result _ c.from_residual-in_err-read-2.ensures.1 (λ e pairs m. absurd (never_full (falls_after c.in_ok-read.ensures.asks (falls_after c.in_ok-found.ensures.asks c.in_err-read-2.ensures.refused)) e))

pub returns-in_err-before-clause-refused : goal.returns-in_err-before-clause-refused
returns-in_err-before-clause-refused g c = out c.from_residual-in_err-before.result _ c.from_residual-in_err-before.ensures.1 (falls_after c.in_ok-read.ensures.asks (falls_after c.in_ok-found.ensures.asks (falls_after c.in_ok-read-2.ensures.asks c.in_err-before.ensures.refused))).fails

pub returns-in_err-before-clause-rooted : goal.returns-in_err-before-clause-rooted
returns-in_err-before-clause-rooted g c = (falls_after c.in_ok-read.ensures.asks (falls_after c.in_ok-found.ensures.asks (falls_after c.in_ok-read-2.ensures.asks c.in_err-before.ensures.refused))).fails.rooted ∙ c.requires.rooted

pub returns-in_err-before-clause-full : goal.returns-in_err-before-clause-full
returns-in_err-before-clause-full g c = out c.from_residual-in_err-before.result _ c.from_residual-in_err-before.ensures.1 (λ e pairs m. absurd (never_full (falls_after c.in_ok-read.ensures.asks (falls_after c.in_ok-found.ensures.asks (falls_after c.in_ok-read-2.ensures.asks c.in_err-before.ensures.refused))) e))

pub returns-in_err-set_pay-clause-refused : goal.returns-in_err-set_pay-clause-refused
returns-in_err-set_pay-clause-refused g c = out c.from_residual-in_err-set_pay.result _ c.from_residual-in_err-set_pay.ensures.1 (falls_after c.in_ok-read.ensures.asks (falls_after c.in_ok-found.ensures.asks (falls_after c.in_ok-read-2.ensures.asks (falls_after c.in_ok-before.ensures.asks c.in_err-set_pay.ensures.refused)))).fails

pub returns-in_err-set_pay-clause-rooted : goal.returns-in_err-set_pay-clause-rooted
returns-in_err-set_pay-clause-rooted g c = (falls_after c.in_ok-read.ensures.asks (falls_after c.in_ok-found.ensures.asks (falls_after c.in_ok-read-2.ensures.asks (falls_after c.in_ok-before.ensures.asks c.in_err-set_pay.ensures.refused)))).fails.rooted ∙ c.requires.rooted

pub returns-in_err-set_pay-clause-full : goal.returns-in_err-set_pay-clause-full
returns-in_err-set_pay-clause-full g c = out c.from_residual-in_err-set_pay.result _ c.from_residual-in_err-set_pay.ensures.1 (λ e pairs m. absurd (never_full (falls_after c.in_ok-read.ensures.asks (falls_after c.in_ok-found.ensures.asks (falls_after c.in_ok-read-2.ensures.asks (falls_after c.in_ok-before.ensures.asks c.in_err-set_pay.ensures.refused)))) e))

pub returns-in_err-parting-clause-refused : goal.returns-in_err-parting-clause-refused
returns-in_err-parting-clause-refused g c = out c.from_residual-in_err-parting.result _ c.from_residual-in_err-parting.ensures.1 (falls_after c.in_ok-read.ensures.asks (falls_after c.in_ok-found.ensures.asks c.in_err-parting.ensures.refused)).fails

pub returns-in_err-parting-clause-rooted : goal.returns-in_err-parting-clause-rooted
returns-in_err-parting-clause-rooted g c = (falls_after c.in_ok-read.ensures.asks (falls_after c.in_ok-found.ensures.asks c.in_err-parting.ensures.refused)).fails.rooted ∙ c.requires.rooted

pub returns-in_err-parting-clause-full : goal.returns-in_err-parting-clause-full
returns-in_err-parting-clause-full g c = out c.from_residual-in_err-parting.result _ c.from_residual-in_err-parting.ensures.1 (λ e pairs m. absurd (never_full (falls_after c.in_ok-read.ensures.asks (falls_after c.in_ok-found.ensures.asks c.in_err-parting.ensures.refused)) e))

pub returns-in_err-make_fork-clause-refused : goal.returns-in_err-make_fork-clause-refused
returns-in_err-make_fork-clause-refused g c = out c.from_residual-in_err-make_fork.result _ c.from_residual-in_err-make_fork.ensures.1 (falls_after c.in_ok-read.ensures.asks (falls_after c.in_ok-found.ensures.asks (falls_after c.in_ok-parting.ensures.asks c.in_err-make_fork.ensures.refused))).fails

pub returns-in_err-make_fork-clause-rooted : goal.returns-in_err-make_fork-clause-rooted
returns-in_err-make_fork-clause-rooted g c = (falls_after c.in_ok-read.ensures.asks (falls_after c.in_ok-found.ensures.asks (falls_after c.in_ok-parting.ensures.asks c.in_err-make_fork.ensures.refused))).fails.rooted ∙ c.requires.rooted

pub returns-in_err-make_fork-clause-full : goal.returns-in_err-make_fork-clause-full
returns-in_err-make_fork-clause-full g c = out c.from_residual-in_err-make_fork.result _ c.from_residual-in_err-make_fork.ensures.1 (λ e pairs m. (let t : HoldsMap (seen c.read.new.self) pairs = holds_map (seen c.args.client.now) (seen c.read.new.self) 13 c.in_ok-read.field-0 pairs c.requires.rooted m c.in_ok-read.ensures.ok c.if-branch-eq0.false c.in_ok-read.ensures.loads in subst (λ n. free_ids (state_of c.args.client.now) < n) (sym (needs_three c.args.key pairs (sym (value_missing c.args.key c.in_ok-found.found (seen c.read.new.self) (seen c.descend.new.client) pairs t c.in_ok-found.ensures.leaf c.if-found-key.false)) (λ q. some_pairs t.tree (sym t.same ∙ q)))) ((falls_after c.in_ok-read.ensures.asks (falls_after c.in_ok-found.ensures.asks (falls_after c.in_ok-parting.ensures.asks c.in_err-make_fork.ensures.refused))).short e)))

pub returns-in_err-make_fork-2-clause-refused : goal.returns-in_err-make_fork-2-clause-refused
returns-in_err-make_fork-2-clause-refused g c = out c.from_residual-in_err-make_fork-2.result _ c.from_residual-in_err-make_fork-2.ensures.1 (falls_after c.in_ok-read.ensures.asks (falls_after c.in_ok-found.ensures.asks (falls_after c.in_ok-parting.ensures.asks c.in_err-make_fork-2.ensures.refused))).fails

pub returns-in_err-make_fork-2-clause-rooted : goal.returns-in_err-make_fork-2-clause-rooted
returns-in_err-make_fork-2-clause-rooted g c = (falls_after c.in_ok-read.ensures.asks (falls_after c.in_ok-found.ensures.asks (falls_after c.in_ok-parting.ensures.asks c.in_err-make_fork-2.ensures.refused))).fails.rooted ∙ c.requires.rooted

pub returns-in_err-make_fork-2-clause-full : goal.returns-in_err-make_fork-2-clause-full
returns-in_err-make_fork-2-clause-full g c = out c.from_residual-in_err-make_fork-2.result _ c.from_residual-in_err-make_fork-2.ensures.1 (λ e pairs m. (let t : HoldsMap (seen c.read.new.self) pairs = holds_map (seen c.args.client.now) (seen c.read.new.self) 13 c.in_ok-read.field-0 pairs c.requires.rooted m c.in_ok-read.ensures.ok c.if-branch-eq0.false c.in_ok-read.ensures.loads in subst (λ n. free_ids (state_of c.args.client.now) < n) (sym (needs_three c.args.key pairs (sym (value_missing c.args.key c.in_ok-found.found (seen c.read.new.self) (seen c.descend.new.client) pairs t c.in_ok-found.ensures.leaf c.if-found-key.false)) (λ q. some_pairs t.tree (sym t.same ∙ q)))) ((falls_after c.in_ok-read.ensures.asks (falls_after c.in_ok-found.ensures.asks (falls_after c.in_ok-parting.ensures.asks c.in_err-make_fork-2.ensures.refused))).short e)))

pub returns-in_err-store-2-clause-refused : goal.returns-in_err-store-2-clause-refused
returns-in_err-store-2-clause-refused g c = out c.from_residual-in_err-store-2.result _ c.from_residual-in_err-store-2.ensures.1 (elim c.if-key-found.branch [
  | then-key-found+in_ok-make_fork w ↦ (falls_after c.in_ok-read.ensures.asks (falls_after c.in_ok-found.ensures.asks (falls_after c.in_ok-parting.ensures.asks (falls_after (subst (λ v. Asks 0 (fork_calls c.args.key c.args.value c.in_ok-parting.parting.bit 0) c.part.new.client v) (sym w.client-is) w.in_ok-make_fork.ensures.asks) c.in_err-store-2.ensures.refused)))).fails
  | else-key-found+in_ok-make_fork-2 w ↦ (falls_after c.in_ok-read.ensures.asks (falls_after c.in_ok-found.ensures.asks (falls_after c.in_ok-parting.ensures.asks (falls_after (subst (λ v. Asks 0 (fork_calls c.args.key c.args.value c.in_ok-parting.parting.bit 1) c.part.new.client v) (sym w.client-is) w.in_ok-make_fork-2.ensures.asks) c.in_err-store-2.ensures.refused)))).fails
])

pub returns-in_err-store-2-clause-rooted : goal.returns-in_err-store-2-clause-rooted
returns-in_err-store-2-clause-rooted g c = elim c.if-key-found.branch [
  | then-key-found+in_ok-make_fork w ↦ (falls_after c.in_ok-read.ensures.asks (falls_after c.in_ok-found.ensures.asks (falls_after c.in_ok-parting.ensures.asks (falls_after (subst (λ v. Asks 0 (fork_calls c.args.key c.args.value c.in_ok-parting.parting.bit 0) c.part.new.client v) (sym w.client-is) w.in_ok-make_fork.ensures.asks) c.in_err-store-2.ensures.refused)))).fails.rooted ∙ c.requires.rooted
  | else-key-found+in_ok-make_fork-2 w ↦ (falls_after c.in_ok-read.ensures.asks (falls_after c.in_ok-found.ensures.asks (falls_after c.in_ok-parting.ensures.asks (falls_after (subst (λ v. Asks 0 (fork_calls c.args.key c.args.value c.in_ok-parting.parting.bit 1) c.part.new.client v) (sym w.client-is) w.in_ok-make_fork-2.ensures.asks) c.in_err-store-2.ensures.refused)))).fails.rooted ∙ c.requires.rooted
]

pub returns-in_err-store-2-clause-full : goal.returns-in_err-store-2-clause-full
returns-in_err-store-2-clause-full g c = out c.from_residual-in_err-store-2.result _ c.from_residual-in_err-store-2.ensures.1 (λ e pairs m. (let t : HoldsMap (seen c.read.new.self) pairs = holds_map (seen c.args.client.now) (seen c.read.new.self) 13 c.in_ok-read.field-0 pairs c.requires.rooted m c.in_ok-read.ensures.ok c.if-branch-eq0.false c.in_ok-read.ensures.loads in subst (λ n. free_ids (state_of c.args.client.now) < n) (sym (needs_three c.args.key pairs (sym (value_missing c.args.key c.in_ok-found.found (seen c.read.new.self) (seen c.descend.new.client) pairs t c.in_ok-found.ensures.leaf c.if-found-key.false)) (λ q. some_pairs t.tree (sym t.same ∙ q)))) (elim c.if-key-found.branch [
  | then-key-found+in_ok-make_fork w ↦ (falls_after c.in_ok-read.ensures.asks (falls_after c.in_ok-found.ensures.asks (falls_after c.in_ok-parting.ensures.asks (falls_after (subst (λ v. Asks 0 (fork_calls c.args.key c.args.value c.in_ok-parting.parting.bit 0) c.part.new.client v) (sym w.client-is) w.in_ok-make_fork.ensures.asks) c.in_err-store-2.ensures.refused)))).short e
  | else-key-found+in_ok-make_fork-2 w ↦ (falls_after c.in_ok-read.ensures.asks (falls_after c.in_ok-found.ensures.asks (falls_after c.in_ok-parting.ensures.asks (falls_after (subst (λ v. Asks 0 (fork_calls c.args.key c.args.value c.in_ok-parting.parting.bit 1) c.part.new.client v) (sym w.client-is) w.in_ok-make_fork-2.ensures.asks) c.in_err-store-2.ensures.refused)))).short e
])))

pub returns-clause-rooted : goal.returns-clause-rooted
returns-clause-rooted g c = elim c.if-key-found.branch [
  | then-key-found+in_ok-make_fork w ↦ (asks_then c.in_ok-read.ensures.asks (asks_then c.in_ok-found.ensures.asks (asks_then c.in_ok-parting.ensures.asks (asks_then (subst (λ v. Asks 0 (fork_calls c.args.key c.args.value c.in_ok-parting.parting.bit 0) c.part.new.client v) (sym w.client-is) w.in_ok-make_fork.ensures.asks) c.in_ok-store-2.ensures.asks)))).rooted ∙ c.requires.rooted
  | else-key-found+in_ok-make_fork-2 w ↦ (asks_then c.in_ok-read.ensures.asks (asks_then c.in_ok-found.ensures.asks (asks_then c.in_ok-parting.ensures.asks (asks_then (subst (λ v. Asks 0 (fork_calls c.args.key c.args.value c.in_ok-parting.parting.bit 1) c.part.new.client v) (sym w.client-is) w.in_ok-make_fork-2.ensures.asks) c.in_ok-store-2.ensures.asks)))).rooted ∙ c.requires.rooted
]

pub returns-then-branch-eq0-clause-rooted : goal.returns-then-branch-eq0-clause-rooted
returns-then-branch-eq0-clause-rooted g c = (asks_then c.in_ok-read.ensures.asks (asks_then c.in_ok-make_leaf.ensures.asks c.in_ok-store.ensures.asks)).rooted ∙ c.requires.rooted

pub returns-then-found-key-clause-rooted : goal.returns-then-found-key-clause-rooted
returns-then-found-key-clause-rooted g c = (asks_then c.in_ok-read.ensures.asks (asks_then c.in_ok-found.ensures.asks (asks_then c.in_ok-read-2.ensures.asks (asks_then c.in_ok-before.ensures.asks c.in_ok-set_pay.ensures.asks)))).rooted ∙ c.requires.rooted

-- ---- the new inner object is in register 5

pub store-requires-2-clause-source_full : goal.store-requires-2-clause-source_full
store-requires-2-clause-source_full g c κs within = elim c.if-key-found.branch [
  | then-key-found+in_ok-make_fork w ↦ (let n : MakesFork c.args.key c.args.value c.in_ok-parting.parting.bit 3 1 (seen c.part.new.client) (seen c.if-key-found.client) = subst (λ v. MakesFork c.args.key c.args.value c.in_ok-parting.parting.bit 3 1 (seen c.part.new.client) v) (seen_same (sym w.client-is)) (w.in_ok-make_fork.ensures.low refl) in held_some (seen c.if-key-found.client) 5 n.inner.id n.inner.here)
  | else-key-found+in_ok-make_fork-2 w ↦ (let n : MakesFork c.args.key c.args.value c.in_ok-parting.parting.bit 1 3 (seen c.part.new.client) (seen c.if-key-found.client) = subst (λ v. MakesFork c.args.key c.args.value c.in_ok-parting.parting.bit 1 3 (seen c.part.new.client) v) (seen_same (sym w.client-is)) (w.in_ok-make_fork-2.ensures.high refl) in held_some (seen c.if-key-found.client) 5 n.inner.id n.inner.here)
]
