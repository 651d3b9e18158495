use Rattle.std.proofs.Common.{rules, ◌≡◌, ◌≤◌, ◌<◌, ◌*◌, ◌%◌, ◌^◌, ℕ, Some, refl, sym, ap, ◌∙◌, subst, arith, true, false}
use Rattle.std.specs.Int.{bit_at}
use Rattle.std.specs.Int.Bits.{bit_or}
use Rattle.plain_model.specs.Graphs.{root, object_at}
use Rattle.object_map.specs.Clients.{seen}
use Rattle.object_map.specs.declared.fork.Fork.{Fork}
use Rattle.object_map.specs.declared.refusal.MapRefusal.TheVariants as MapRefusal
use Rattle.object_map.specs.Broken.{HasWrongKey, BreaksInner, IsFirst, IsMet}
use Rattle.object_map.specs.Broken.BreaksInner.{climbs, mixes}
use Rattle.object_map.specs.Forks.{IsFork}
use Rattle.object_map.specs.Maps.{AreObjects, IsInner, slot_of}
use Rattle.object_map.specs.Trees.{forks_in}
use Rattle.object_map.specs.Seen.{Seen, at, held, held_id}
use Rattle.object_map.specs.Walking.{Looks, IsReached, Grown, NoTree}
use Rattle.object_map.specs.Walking.Refuses.{denies, falls}
use Rattle.object_map.proofs.AskLaws.{out}
use Rattle.object_map.proofs.BlameLaws.{same_name, falls_names, Denied, denied, blamed, blamed_first, reached_named, fork_is, ready_later}
use Rattle.object_map.proofs.BoundLaws.{TwoSides, two_sides_of, looks_inner, looks_leaf}
use Rattle.object_map.proofs.BrokenLaws.{inner_first}
use Rattle.object_map.proofs.FirstLaws.{low_first, high_first, parts_wrong}
use Rattle.core_store.proofs.MapLaws.{none_from}
use Rattle.object_map.proofs.WayLaws.{held_here, held_some, nonzero_some}
use Rattle.object_map.proofs.GrowLaws.{no_number, no_inner, no_low, no_high, no_parts, inner_grown, moved, moved_on, do_part, part_does}
use Rattle.object_map.proofs.GuideLaws.{inner_given, AtObject, at_object, leaf_found, inner_found, inner_missed, inner_null, low_here, low_way, high_way, clear_high}
use Rattle.object_map.proofs.WalkLaws.{looks_then, looks_once, looks_payload, falls_looked, refuses_after}
use Rattle.object_map.proofs.attaching.+grow.Goals as goal

never_true : false ≡ true → ⊥
never_true e = absurd (cc)

-- ---- a leaf

pub get_pay-requires-clause-full : goal.get_pay-requires-clause-full
get_pay-requires-clause-full g t c κs within =
    held_some (seen c.args.client.now) 1 c.args.id c.requires.here

pub read-requires-clause-full : goal.read-requires-clause-full
read-requires-clause-full g t c κs within =
    held_some (seen c.get_pay.new.self) 1 c.args.id (ap (λ (x : Seen). held x 1) c.in_ok-payload.ensures.same ∙ c.requires.here)

pub meet_leaf-requires-clause-leaf : goal.meet_leaf-requires-clause-leaf
meet_leaf-requires-clause-leaf g t c κs within =
    let o : AtObject (seen c.args.client.now) (seen c.read.new.self) c.args.id c.in_ok-payload.payload c.in_ok-cell.cell = at_object (seen c.args.client.now) (seen c.get_pay.new.self) (seen c.read.new.self) c.args.id c.in_ok-payload.payload c.in_ok-cell.cell c.requires.here c.requires.rooted c.in_ok-payload.ensures.same c.in_ok-payload.ensures.ok c.in_ok-cell.ensures.ok c.in_ok-cell.ensures.loads in
    o.here

pub meet_leaf-requires-clause-cell : goal.meet_leaf-requires-clause-cell
meet_leaf-requires-clause-cell g t c κs within =
    let o : AtObject (seen c.args.client.now) (seen c.read.new.self) c.args.id c.in_ok-payload.payload c.in_ok-cell.cell = at_object (seen c.args.client.now) (seen c.get_pay.new.self) (seen c.read.new.self) c.args.id c.in_ok-payload.payload c.in_ok-cell.cell c.requires.here c.requires.rooted c.in_ok-payload.ensures.same c.in_ok-payload.ensures.ok c.in_ok-cell.ensures.ok c.in_ok-cell.ensures.loads in
    c.in_ok-cell.ensures.loads.here ∙ nonzero_some c.in_ok-cell.cell c.if-cell-ne0.true

pub meet_leaf-requires-clause-names : goal.meet_leaf-requires-clause-names
meet_leaf-requires-clause-names g t c κs within =
    let o : AtObject (seen c.args.client.now) (seen c.read.new.self) c.args.id c.in_ok-payload.payload c.in_ok-cell.cell = at_object (seen c.args.client.now) (seen c.get_pay.new.self) (seen c.read.new.self) c.args.id c.in_ok-payload.payload c.in_ok-cell.cell c.requires.here c.requires.rooted c.in_ok-payload.ensures.same c.in_ok-payload.ensures.ok c.in_ok-cell.ensures.ok c.in_ok-cell.ensures.loads in
    ap (λ x. slot_of (object_at x c.args.id) 2) o.graph ∙ sym o.names

pub returns-then-cell-ne0-clause-grown : goal.returns-then-cell-ne0-clause-grown
returns-then-cell-ne0-clause-grown g t c =
    let o : AtObject (seen c.args.client.now) (seen c.read.new.self) c.args.id c.in_ok-payload.payload c.in_ok-cell.cell = at_object (seen c.args.client.now) (seen c.get_pay.new.self) (seen c.read.new.self) c.args.id c.in_ok-payload.payload c.in_ok-cell.cell c.requires.here c.requires.rooted c.in_ok-payload.ensures.same c.in_ok-payload.ensures.ok c.in_ok-cell.ensures.ok c.in_ok-cell.ensures.loads in
    leaf_found (seen c.args.client.now) (seen c.read.new.self) c.args.id c.in_ok-payload.payload c.in_ok-cell.cell c.args.below c.args.cells.now.keys c.meet_leaf.new.cells.keys o.graph (search rules) o.number c.in_ok-meet_leaf.ensures.is_leaf c.in_ok-meet_leaf.ensures.is_cell c.in_ok-meet_leaf.ensures.fresh c.in_ok-meet_leaf.ensures.met

pub returns-then-cell-ne0-clause-looks : goal.returns-then-cell-ne0-clause-looks
returns-then-cell-ne0-clause-looks g t c =
    let l : Looks c.args.client.now c.read.new.self = (looks_then (looks_payload c.in_ok-payload.ensures.asks c.in_ok-payload.ensures.same) (looks_once c.in_ok-cell.ensures.asks c.in_ok-cell.ensures.loads.graph)) in
    looks_then l c.in_ok-meet_leaf.ensures.looks

-- ---- no inner object

pub returns-then-payload-below-clause-refused : goal.returns-then-payload-below-clause-refused
returns-then-payload-below-clause-refused g t c =
    let o : AtObject (seen c.args.client.now) (seen c.read.new.self) c.args.id c.in_ok-payload.payload c.in_ok-cell.cell = at_object (seen c.args.client.now) (seen c.get_pay.new.self) (seen c.read.new.self) c.args.id c.in_ok-payload.payload c.in_ok-cell.cell c.requires.here c.requires.rooted c.in_ok-payload.ensures.same c.in_ok-payload.ensures.ok c.in_ok-cell.ensures.ok c.in_ok-cell.ensures.loads in
    let l : Looks c.args.client.now c.read.new.self = (looks_then (looks_payload c.in_ok-payload.ensures.asks c.in_ok-payload.ensures.same) (looks_once c.in_ok-cell.ensures.asks c.in_ok-cell.ensures.loads.graph)) in
    denies c.args.id refl (no_number (at (seen c.args.client.now)) c.args.id c.args.below c.args.cells.now.keys (sym o.names ∙ c.if-cell-ne0.false) (subst (λ n. c.args.below ≤ n) o.number c.if-payload-below.true)) l

pub sides-requires-clause-full : goal.sides-requires-clause-full
sides-requires-clause-full g t c κs within =
    let o : AtObject (seen c.args.client.now) (seen c.read.new.self) c.args.id c.in_ok-payload.payload c.in_ok-cell.cell = at_object (seen c.args.client.now) (seen c.get_pay.new.self) (seen c.read.new.self) c.args.id c.in_ok-payload.payload c.in_ok-cell.cell c.requires.here c.requires.rooted c.in_ok-payload.ensures.same c.in_ok-payload.ensures.ok c.in_ok-cell.ensures.ok c.in_ok-cell.ensures.loads in
    held_some (seen c.read.new.self) 1 c.args.id o.here

pub returns-in_default-clause-refused : goal.returns-in_default-clause-refused
returns-in_default-clause-refused g t c =
    let o : AtObject (seen c.args.client.now) (seen c.read.new.self) c.args.id c.in_ok-payload.payload c.in_ok-cell.cell = at_object (seen c.args.client.now) (seen c.get_pay.new.self) (seen c.read.new.self) c.args.id c.in_ok-payload.payload c.in_ok-cell.cell c.requires.here c.requires.rooted c.in_ok-payload.ensures.same c.in_ok-payload.ensures.ok c.in_ok-cell.ensures.ok c.in_ok-cell.ensures.loads in
    let l : Looks c.args.client.now c.read.new.self = (looks_then (looks_payload c.in_ok-payload.ensures.asks c.in_ok-payload.ensures.same) (looks_once c.in_ok-cell.ensures.asks c.in_ok-cell.ensures.loads.graph)) in
    denies c.args.id refl (no_inner (at (seen c.args.client.now)) c.args.id c.args.below c.args.cells.now.keys (sym o.names ∙ c.if-cell-ne0.false) (inner_missed (seen c.args.client.now) (seen c.read.new.self) 1 c.args.id o.graph o.here (c.in_ok-looked.ensures.none (none_from c.in_ok-looked.looked (λ x is. c.in_default.not-Some x is))))) (looks_then l c.in_ok-looked.ensures.scans.look)

-- ---- the low tree

pub read-requires-2-clause-full : goal.read-requires-2-clause-full
read-requires-2-clause-full g t c κs within =
    let o : AtObject (seen c.args.client.now) (seen c.read.new.self) c.args.id c.in_ok-payload.payload c.in_ok-cell.cell = at_object (seen c.args.client.now) (seen c.get_pay.new.self) (seen c.read.new.self) c.args.id c.in_ok-payload.payload c.in_ok-cell.cell c.requires.here c.requires.rooted c.in_ok-payload.ensures.same c.in_ok-payload.ensures.ok c.in_ok-cell.ensures.ok c.in_ok-cell.ensures.loads in
    let h2 : held (seen c.sides.new.client) 1 ≡ Some c.args.id = c.in_ok-looked.ensures.scans.others 1 (λ z. absurd (omega (arith, z))) ∙ o.here in
    held_some (seen c.sides.new.client) 1 c.args.id h2

pub grow-requires-clause-rooted : goal.grow-requires-clause-rooted
grow-requires-clause-rooted g t c κs within =
    let o : AtObject (seen c.args.client.now) (seen c.read.new.self) c.args.id c.in_ok-payload.payload c.in_ok-cell.cell = at_object (seen c.args.client.now) (seen c.get_pay.new.self) (seen c.read.new.self) c.args.id c.in_ok-payload.payload c.in_ok-cell.cell c.requires.here c.requires.rooted c.in_ok-payload.ensures.same c.in_ok-payload.ensures.ok c.in_ok-cell.ensures.ok c.in_ok-cell.ensures.loads in
    let l : Looks c.args.client.now c.read.new.self = (looks_then (looks_payload c.in_ok-payload.ensures.asks c.in_ok-payload.ensures.same) (looks_once c.in_ok-cell.ensures.asks c.in_ok-cell.ensures.loads.graph)) in
    let l2 : Looks c.args.client.now c.sides.new.client = looks_then l c.in_ok-looked.ensures.scans.look in
    let l3 : Looks c.args.client.now c.read-2.new.self = looks_then l2 (looks_once c.in_ok-read.ensures.asks c.in_ok-read.ensures.loads.graph) in
    l3.asks.rooted ∙ c.requires.rooted

pub grow-requires-clause-start : goal.grow-requires-clause-start
grow-requires-clause-start g t c κs within =
    let o : AtObject (seen c.args.client.now) (seen c.read.new.self) c.args.id c.in_ok-payload.payload c.in_ok-cell.cell = at_object (seen c.args.client.now) (seen c.get_pay.new.self) (seen c.read.new.self) c.args.id c.in_ok-payload.payload c.in_ok-cell.cell c.requires.here c.requires.rooted c.in_ok-payload.ensures.same c.in_ok-payload.ensures.ok c.in_ok-cell.ensures.ok c.in_ok-cell.ensures.loads in
    let l : Looks c.args.client.now c.read.new.self = (looks_then (looks_payload c.in_ok-payload.ensures.asks c.in_ok-payload.ensures.same) (looks_once c.in_ok-cell.ensures.asks c.in_ok-cell.ensures.loads.graph)) in
    let l2 : Looks c.args.client.now c.sides.new.client = looks_then l c.in_ok-looked.ensures.scans.look in
    let l3 : Looks c.args.client.now c.read-2.new.self = looks_then l2 (looks_once c.in_ok-read.ensures.asks c.in_ok-read.ensures.loads.graph) in
    λ z. c.requires.start (ap (λ x. slot_of (object_at x root) 13) (sym l3.graph) ∙ z)

pub grow-requires-clause-here : goal.grow-requires-clause-here
grow-requires-clause-here g t c κs within =
    let o : AtObject (seen c.args.client.now) (seen c.read.new.self) c.args.id c.in_ok-payload.payload c.in_ok-cell.cell = at_object (seen c.args.client.now) (seen c.get_pay.new.self) (seen c.read.new.self) c.args.id c.in_ok-payload.payload c.in_ok-cell.cell c.requires.here c.requires.rooted c.in_ok-payload.ensures.same c.in_ok-payload.ensures.ok c.in_ok-cell.ensures.ok c.in_ok-cell.ensures.loads in
    let l : Looks c.args.client.now c.read.new.self = (looks_then (looks_payload c.in_ok-payload.ensures.asks c.in_ok-payload.ensures.same) (looks_once c.in_ok-cell.ensures.asks c.in_ok-cell.ensures.loads.graph)) in
    let l2 : Looks c.args.client.now c.sides.new.client = looks_then l c.in_ok-looked.ensures.scans.look in
    let h2 : held (seen c.sides.new.client) 1 ≡ Some c.args.id = c.in_ok-looked.ensures.scans.others 1 (λ z. absurd (omega (arith, z))) ∙ o.here in
    let i : IsInner (at (seen c.args.client.now) c.args.id) c.in_ok-payload.payload c.in-Some.found.0 c.in-Some.found.1 = inner_found (seen c.args.client.now) (seen c.read.new.self) 1 c.args.id c.in_ok-payload.payload c.in-Some.found.0 c.in-Some.found.1 o.graph o.here o.number (inner_given (seen c.read.new.self) c.in_ok-looked.looked c.in-Some.found c.in_ok-looked.ensures.inner c.in-Some.is) in
    low_here (seen c.args.client.now) (seen c.sides.new.client) (seen c.read-2.new.self) c.args.id c.in_ok-payload.payload c.in-Some.found.0 c.in-Some.found.1 c.in_ok-read.field-0 l2.graph h2 i c.in_ok-read.ensures.ok c.in_ok-read.ensures.loads

pub grow-requires-clause-few : goal.grow-requires-clause-few
grow-requires-clause-few g t c κs within =
    let less : c.in_ok-payload.payload < c.args.below = c.if-payload-below.false in
    (let few : c.args.below ≤ 64 = c.requires.few in omega (arith, less, few))

pub grow-requires-clause-clear : goal.grow-requires-clause-clear
grow-requires-clause-clear g t c κs within =
    let less : c.in_ok-payload.payload < c.args.below = c.if-payload-below.false in
    λ b h. c.requires.clear b (omega (arith, h, less))

pub grow-requires-clause-way : goal.grow-requires-clause-way
grow-requires-clause-way g t c κs within =
    let o : AtObject (seen c.args.client.now) (seen c.read.new.self) c.args.id c.in_ok-payload.payload c.in_ok-cell.cell = at_object (seen c.args.client.now) (seen c.get_pay.new.self) (seen c.read.new.self) c.args.id c.in_ok-payload.payload c.in_ok-cell.cell c.requires.here c.requires.rooted c.in_ok-payload.ensures.same c.in_ok-payload.ensures.ok c.in_ok-cell.ensures.ok c.in_ok-cell.ensures.loads in
    let l : Looks c.args.client.now c.read.new.self = (looks_then (looks_payload c.in_ok-payload.ensures.asks c.in_ok-payload.ensures.same) (looks_once c.in_ok-cell.ensures.asks c.in_ok-cell.ensures.loads.graph)) in
    let l2 : Looks c.args.client.now c.sides.new.client = looks_then l c.in_ok-looked.ensures.scans.look in
    let l3 : Looks c.args.client.now c.read-2.new.self = looks_then l2 (looks_once c.in_ok-read.ensures.asks c.in_ok-read.ensures.loads.graph) in
    let i : IsInner (at (seen c.args.client.now) c.args.id) c.in_ok-payload.payload c.in-Some.found.0 c.in-Some.found.1 = inner_found (seen c.args.client.now) (seen c.read.new.self) 1 c.args.id c.in_ok-payload.payload c.in-Some.found.0 c.in-Some.found.1 o.graph o.here o.number (inner_given (seen c.read.new.self) c.in_ok-looked.looked c.in-Some.found c.in_ok-looked.ensures.inner c.in-Some.is) in
    let less : c.in_ok-payload.payload < c.args.below = c.if-payload-below.false in
    low_way (seen c.args.client.now) (seen c.read-2.new.self) c.args.guide c.args.below c.in_ok-payload.payload c.args.id c.in-Some.found.0 c.in-Some.found.1 l3.graph c.requires.way less i (c.requires.clear c.in_ok-payload.payload less)

-- ---- the high tree

-- ---- both

-- ---- refusals

pub returns-in_err-payload-clause-refused : goal.returns-in_err-payload-clause-refused
returns-in_err-payload-clause-refused g t c =
    out c.from_residual.result _ c.from_residual.ensures.1 (falls c.in_err-payload.ensures.refused)

pub returns-in_err-cell-clause-refused : goal.returns-in_err-cell-clause-refused
returns-in_err-cell-clause-refused g t c =
    out c.from_residual-in_err-cell.result _ c.from_residual-in_err-cell.ensures.1 (falls (falls_looked (looks_payload c.in_ok-payload.ensures.asks c.in_ok-payload.ensures.same) c.in_err-cell.ensures.refused))

pub returns-in_err-meet_leaf-clause-refused : goal.returns-in_err-meet_leaf-clause-refused
returns-in_err-meet_leaf-clause-refused g t c =
    let o : AtObject (seen c.args.client.now) (seen c.read.new.self) c.args.id c.in_ok-payload.payload c.in_ok-cell.cell = at_object (seen c.args.client.now) (seen c.get_pay.new.self) (seen c.read.new.self) c.args.id c.in_ok-payload.payload c.in_ok-cell.cell c.requires.here c.requires.rooted c.in_ok-payload.ensures.same c.in_ok-payload.ensures.ok c.in_ok-cell.ensures.ok c.in_ok-cell.ensures.loads in
    let l : Looks c.args.client.now c.read.new.self = (looks_then (looks_payload c.in_ok-payload.ensures.asks c.in_ok-payload.ensures.same) (looks_once c.in_ok-cell.ensures.asks c.in_ok-cell.ensures.loads.graph)) in
    out c.from_residual-in_err-meet_leaf.result _ c.from_residual-in_err-meet_leaf.ensures.1 (refuses_after l (moved (seen c.args.client.now) (seen c.read.new.self) (λ f. NoTree f c.args.id c.args.below c.args.cells.now.keys) o.graph) (c.in_err-meet_leaf.ensures.refused c.args.below))

pub returns-in_err-looked-clause-refused : goal.returns-in_err-looked-clause-refused
returns-in_err-looked-clause-refused g t c =
    let l : Looks c.args.client.now c.read.new.self = (looks_then (looks_payload c.in_ok-payload.ensures.asks c.in_ok-payload.ensures.same) (looks_once c.in_ok-cell.ensures.asks c.in_ok-cell.ensures.loads.graph)) in
    out c.from_residual-in_err-looked.result _ c.from_residual-in_err-looked.ensures.1 (falls (falls_looked l c.in_err-looked.ensures.refused))

pub returns-in_err-read-clause-refused : goal.returns-in_err-read-clause-refused
returns-in_err-read-clause-refused g t c =
    let l : Looks c.args.client.now c.read.new.self = (looks_then (looks_payload c.in_ok-payload.ensures.asks c.in_ok-payload.ensures.same) (looks_once c.in_ok-cell.ensures.asks c.in_ok-cell.ensures.loads.graph)) in
    let l2 : Looks c.args.client.now c.sides.new.client = looks_then l c.in_ok-looked.ensures.scans.look in
    out c.from_residual-in_err-read.result _ c.from_residual-in_err-read.ensures.1 (falls (falls_looked l2 c.in_err-read.ensures.refused))

-- ---- the first object that breaks its sentence

pub meet_leaf-requires-clause-there : goal.meet_leaf-requires-clause-there
meet_leaf-requires-clause-there g t c κs within =
    reached_named (at (seen c.args.client.now)) c.args.guide c.args.below (slot_of (at (seen c.args.client.now) root) 13) c.args.id c.requires.start c.requires.way

pub returns-in_err-meet_leaf-clause-first : goal.returns-in_err-meet_leaf-clause-first
returns-in_err-meet_leaf-clause-first g t c =
    let o : AtObject (seen c.args.client.now) (seen c.read.new.self) c.args.id c.in_ok-payload.payload c.in_ok-cell.cell = at_object (seen c.args.client.now) (seen c.get_pay.new.self) (seen c.read.new.self) c.args.id c.in_ok-payload.payload c.in_ok-cell.cell c.requires.here c.requires.rooted c.in_ok-payload.ensures.same c.in_ok-payload.ensures.ok c.in_ok-cell.ensures.ok c.in_ok-cell.ensures.loads in
    out c.from_residual-in_err-meet_leaf.result _ c.from_residual-in_err-meet_leaf.ensures.1
    (λ d e. moved (seen c.args.client.now) (seen c.read.new.self) (λ f. IsFirst f (IsMet c.args.cells.now.keys) c.args.below c.args.id d) o.graph (c.in_err-meet_leaf.ensures.first c.args.below d e))

pub returns-then-payload-below-clause-first : goal.returns-then-payload-below-clause-first
returns-then-payload-below-clause-first g t c =
    let o : AtObject (seen c.args.client.now) (seen c.read.new.self) c.args.id c.in_ok-payload.payload c.in_ok-cell.cell = at_object (seen c.args.client.now) (seen c.get_pay.new.self) (seen c.read.new.self) c.args.id c.in_ok-payload.payload c.in_ok-cell.cell c.requires.here c.requires.rooted c.in_ok-payload.ensures.same c.in_ok-payload.ensures.ok c.in_ok-cell.ensures.ok c.in_ok-cell.ensures.loads in
    λ d e. subst (λ d. IsFirst (at (seen c.args.client.now)) (IsMet c.args.cells.now.keys) c.args.below c.args.id d) (same_name c.args.id d e) (inner_first (at (seen c.args.client.now)) (IsMet c.args.cells.now.keys) c.args.below c.args.id (reached_named (at (seen c.args.client.now)) c.args.guide c.args.below (slot_of (at (seen c.args.client.now) root) 13) c.args.id c.requires.start c.requires.way) (sym o.names ∙ c.if-cell-ne0.false) (climbs (subst (λ n. c.args.below ≤ n) o.number c.if-payload-below.true)))

pub returns-in_default-clause-first : goal.returns-in_default-clause-first
returns-in_default-clause-first g t c =
    let o : AtObject (seen c.args.client.now) (seen c.read.new.self) c.args.id c.in_ok-payload.payload c.in_ok-cell.cell = at_object (seen c.args.client.now) (seen c.get_pay.new.self) (seen c.read.new.self) c.args.id c.in_ok-payload.payload c.in_ok-cell.cell c.requires.here c.requires.rooted c.in_ok-payload.ensures.same c.in_ok-payload.ensures.ok c.in_ok-cell.ensures.ok c.in_ok-cell.ensures.loads in
    let broken : BreaksInner (at (seen c.args.client.now)) c.args.below c.args.id = subst (λ y. BreaksInner (at (seen c.args.client.now)) c.args.below y) (held_here (seen c.read.new.self) 1 c.args.id o.here)
    (moved (seen c.args.client.now) (seen c.read.new.self) (λ f. BreaksInner f c.args.below (held_id (seen c.read.new.self) 1)) o.graph (c.in_ok-looked.ensures.broken (none_from c.in_ok-looked.looked (λ x is. c.in_default.not-Some x is)) c.args.below)) in
    λ d e. subst (λ d. IsFirst (at (seen c.args.client.now)) (IsMet c.args.cells.now.keys) c.args.below c.args.id d) (same_name c.args.id d e) (inner_first (at (seen c.args.client.now)) (IsMet c.args.cells.now.keys) c.args.below c.args.id (reached_named (at (seen c.args.client.now)) c.args.guide c.args.below (slot_of (at (seen c.args.client.now) root) 13) c.args.id c.requires.start c.requires.way) (sym o.names ∙ c.if-cell-ne0.false) broken)

-- ---- a refusal below the low slot

pub blame-requires-clause-ready : goal.blame-requires-clause-ready
blame-requires-clause-ready g t c κs within =
    let o : AtObject (seen c.args.client.now) (seen c.read.new.self) c.args.id c.in_ok-payload.payload c.in_ok-cell.cell = at_object (seen c.args.client.now) (seen c.get_pay.new.self) (seen c.read.new.self) c.args.id c.in_ok-payload.payload c.in_ok-cell.cell c.requires.here c.requires.rooted c.in_ok-payload.ensures.same c.in_ok-payload.ensures.ok c.in_ok-cell.ensures.ok c.in_ok-cell.ensures.loads in
    let l : Looks c.args.client.now c.read.new.self = (looks_then (looks_payload c.in_ok-payload.ensures.asks c.in_ok-payload.ensures.same) (looks_once c.in_ok-cell.ensures.asks c.in_ok-cell.ensures.loads.graph)) in
    let l2 : Looks c.args.client.now c.sides.new.client = looks_then l c.in_ok-looked.ensures.scans.look in
    let l3 : Looks c.args.client.now c.read-2.new.self = looks_then l2 (looks_once c.in_ok-read.ensures.asks c.in_ok-read.ensures.loads.graph) in
    let i : IsInner (at (seen c.args.client.now) c.args.id) c.in_ok-payload.payload c.in-Some.found.0 c.in-Some.found.1 = inner_found (seen c.args.client.now) (seen c.read.new.self) 1 c.args.id c.in_ok-payload.payload c.in-Some.found.0 c.in-Some.found.1 o.graph o.here o.number (inner_given (seen c.read.new.self) c.in_ok-looked.looked c.in-Some.found c.in_ok-looked.ensures.inner c.in-Some.is) in
    let less : c.in_ok-payload.payload < c.args.below = c.if-payload-below.false in
    let fork : IsFork (at (seen c.args.client.now)) (slot_of (at (seen c.args.client.now) root) 13) c.fork_at-fork.result = fork_is (at (seen c.args.client.now)) (slot_of (at (seen c.args.client.now) root) 13) c.fork_at-fork.result c.args.id c.in_ok-payload.payload c.in-Some.found.0 c.in-Some.found.1 c.args.guide c.args.below c.fork_at-fork.ensures i less c.requires.few c.requires.way c.requires.clear in
    λ d e.
    let y : Denied (NoTree (at (seen c.read-2.new.self)) c.in-Some.found.0 c.in_ok-payload.payload c.args.cells.now.keys) c.read-2.new.self c.grow.new.client = denied c.in-Err.ensures.refused d e in
    let l4 : Looks c.args.client.now c.grow.new.client = looks_then l3 y.looks in
    ready_later (seen c.args.client.now) (seen c.grow.new.client) c.fork_at-fork.result l4.graph (l4.asks.rooted ∙ c.requires.rooted) c.requires.start fork

pub returns-in-Err-clause-refused : goal.returns-in-Err-clause-refused
returns-in-Err-clause-refused g t c =
    let o : AtObject (seen c.args.client.now) (seen c.read.new.self) c.args.id c.in_ok-payload.payload c.in_ok-cell.cell = at_object (seen c.args.client.now) (seen c.get_pay.new.self) (seen c.read.new.self) c.args.id c.in_ok-payload.payload c.in_ok-cell.cell c.requires.here c.requires.rooted c.in_ok-payload.ensures.same c.in_ok-payload.ensures.ok c.in_ok-cell.ensures.ok c.in_ok-cell.ensures.loads in
    let l : Looks c.args.client.now c.read.new.self = (looks_then (looks_payload c.in_ok-payload.ensures.asks c.in_ok-payload.ensures.same) (looks_once c.in_ok-cell.ensures.asks c.in_ok-cell.ensures.loads.graph)) in
    let l2 : Looks c.args.client.now c.sides.new.client = looks_then l c.in_ok-looked.ensures.scans.look in
    let l3 : Looks c.args.client.now c.read-2.new.self = looks_then l2 (looks_once c.in_ok-read.ensures.asks c.in_ok-read.ensures.loads.graph) in
    let i : IsInner (at (seen c.args.client.now) c.args.id) c.in_ok-payload.payload c.in-Some.found.0 c.in-Some.found.1 = inner_found (seen c.args.client.now) (seen c.read.new.self) 1 c.args.id c.in_ok-payload.payload c.in-Some.found.0 c.in-Some.found.1 o.graph o.here o.number (inner_given (seen c.read.new.self) c.in_ok-looked.looked c.in-Some.found c.in_ok-looked.ensures.inner c.in-Some.is) in
    blamed l3 (λ n. no_low (at (seen c.args.client.now)) c.args.id c.in-Some.found.0 c.in-Some.found.1 c.in_ok-payload.payload c.args.below c.args.cells.now.keys i (inner_null (at (seen c.args.client.now) c.args.id) c.in_ok-payload.payload c.in-Some.found.0 c.in-Some.found.1 i) (moved (seen c.args.client.now) (seen c.read-2.new.self) (λ f. NoTree f c.in-Some.found.0 c.in_ok-payload.payload c.args.cells.now.keys) l3.graph n)) c.in-Err.ensures.refused c.blame.ensures

pub returns-in-Err-clause-first : goal.returns-in-Err-clause-first
returns-in-Err-clause-first g t c =
    let o : AtObject (seen c.args.client.now) (seen c.read.new.self) c.args.id c.in_ok-payload.payload c.in_ok-cell.cell = at_object (seen c.args.client.now) (seen c.get_pay.new.self) (seen c.read.new.self) c.args.id c.in_ok-payload.payload c.in_ok-cell.cell c.requires.here c.requires.rooted c.in_ok-payload.ensures.same c.in_ok-payload.ensures.ok c.in_ok-cell.ensures.ok c.in_ok-cell.ensures.loads in
    let l : Looks c.args.client.now c.read.new.self = (looks_then (looks_payload c.in_ok-payload.ensures.asks c.in_ok-payload.ensures.same) (looks_once c.in_ok-cell.ensures.asks c.in_ok-cell.ensures.loads.graph)) in
    let l2 : Looks c.args.client.now c.sides.new.client = looks_then l c.in_ok-looked.ensures.scans.look in
    let l3 : Looks c.args.client.now c.read-2.new.self = looks_then l2 (looks_once c.in_ok-read.ensures.asks c.in_ok-read.ensures.loads.graph) in
    let i : IsInner (at (seen c.args.client.now) c.args.id) c.in_ok-payload.payload c.in-Some.found.0 c.in-Some.found.1 = inner_found (seen c.args.client.now) (seen c.read.new.self) 1 c.args.id c.in_ok-payload.payload c.in-Some.found.0 c.in-Some.found.1 o.graph o.here o.number (inner_given (seen c.read.new.self) c.in_ok-looked.looked c.in-Some.found c.in_ok-looked.ensures.inner c.in-Some.is) in
    let less : c.in_ok-payload.payload < c.args.below = c.if-payload-below.false in
    let own : c.fork_at-fork.result.id ≡ c.args.id = ap (λ (k : Fork). k.id) c.fork_at-fork.ensures in
    let here : (d : ℕ) → c.in-Err.why ≡ MapRefusal.NotMap d → HasWrongKey (at (seen c.grow.new.client)) c.fork_at-fork.result.id → IsFirst (at (seen c.args.client.now)) (IsMet c.args.cells.now.keys) c.args.below c.args.id c.fork_at-fork.result.id = λ d e w.
    (let g2 : (seen c.grow.new.client).graph ≡ (seen c.args.client.now).graph = (looks_then l3 (denied c.in-Err.ensures.refused d e).looks).graph in
    subst (λ d. IsFirst (at (seen c.args.client.now)) (IsMet c.args.cells.now.keys) c.args.below c.args.id d) (sym own) (inner_first (at (seen c.args.client.now)) (IsMet c.args.cells.now.keys) c.args.below c.args.id (reached_named (at (seen c.args.client.now)) c.args.guide c.args.below (slot_of (at (seen c.args.client.now) root) 13) c.args.id c.requires.start c.requires.way) (inner_null (at (seen c.args.client.now) c.args.id) c.in_ok-payload.payload c.in-Some.found.0 c.in-Some.found.1 i) (mixes (subst (λ y. HasWrongKey (at (seen c.args.client.now)) y) own (moved (seen c.args.client.now) (seen c.grow.new.client) (λ f. HasWrongKey f c.fork_at-fork.result.id) g2 w))))) in
    let under : (d : ℕ) → c.in-Err.why ≡ MapRefusal.NotMap d → (HasWrongKey (at (seen c.grow.new.client)) c.fork_at-fork.result.id → ⊥) → IsFirst (at (seen c.args.client.now)) (IsMet c.args.cells.now.keys) c.args.below c.args.id d = λ d e none.
    (let g2 : (seen c.grow.new.client).graph ≡ (seen c.args.client.now).graph = (looks_then l3 (denied c.in-Err.ensures.refused d e).looks).graph in
    let right : HasWrongKey (at (seen c.args.client.now)) c.args.id → ⊥ = λ h. none (moved_on (seen c.args.client.now) (seen c.grow.new.client) (λ f. HasWrongKey f c.fork_at-fork.result.id) g2 (subst (λ y. HasWrongKey (at (seen c.args.client.now)) y) (sym own) h)) in
    low_first (at (seen c.args.client.now)) c.args.id c.in-Some.found.0 c.in-Some.found.1 c.in_ok-payload.payload c.args.below d c.args.cells.now.keys (reached_named (at (seen c.args.client.now)) c.args.guide c.args.below (slot_of (at (seen c.args.client.now) root) 13) c.args.id c.requires.start c.requires.way) i less right (moved (seen c.args.client.now) (seen c.read-2.new.self) (λ f. IsFirst f (IsMet c.args.cells.now.keys) c.in_ok-payload.payload c.in-Some.found.0 d) l3.graph (c.in-Err.ensures.first d e))) in
    blamed_first (λ d. IsFirst (at (seen c.args.client.now)) (IsMet c.args.cells.now.keys) c.args.below c.args.id d) under here c.blame.ensures

-- ---- the high tree

pub reach-requires-clause-way : goal.reach-requires-clause-way
reach-requires-clause-way g t c κs within =
    let o : AtObject (seen c.args.client.now) (seen c.read.new.self) c.args.id c.in_ok-payload.payload c.in_ok-cell.cell = at_object (seen c.args.client.now) (seen c.get_pay.new.self) (seen c.read.new.self) c.args.id c.in_ok-payload.payload c.in_ok-cell.cell c.requires.here c.requires.rooted c.in_ok-payload.ensures.same c.in_ok-payload.ensures.ok c.in_ok-cell.ensures.ok c.in_ok-cell.ensures.loads in
    let l : Looks c.args.client.now c.read.new.self = (looks_then (looks_payload c.in_ok-payload.ensures.asks c.in_ok-payload.ensures.same) (looks_once c.in_ok-cell.ensures.asks c.in_ok-cell.ensures.loads.graph)) in
    let l2 : Looks c.args.client.now c.sides.new.client = looks_then l c.in_ok-looked.ensures.scans.look in
    let l3 : Looks c.args.client.now c.read-2.new.self = looks_then l2 (looks_once c.in_ok-read.ensures.asks c.in_ok-read.ensures.loads.graph) in
    let l4 : Looks c.args.client.now c.grow.new.client = looks_then l3 c.in-Ok.ensures.looks in
    let i : IsInner (at (seen c.args.client.now) c.args.id) c.in_ok-payload.payload c.in-Some.found.0 c.in-Some.found.1 = inner_found (seen c.args.client.now) (seen c.read.new.self) 1 c.args.id c.in_ok-payload.payload c.in-Some.found.0 c.in-Some.found.1 o.graph o.here o.number (inner_given (seen c.read.new.self) c.in_ok-looked.looked c.in-Some.found c.in_ok-looked.ensures.inner c.in-Some.is) in
    let less : c.in_ok-payload.payload < c.args.below = c.if-payload-below.false in
    let turned : c.fork_at-fork.result.turned ≡ bit_or c.args.guide (1 * 2 ^ c.in_ok-payload.payload % 2 ^ 64) = ap (λ (k : Fork). k.turned) c.fork_at-fork.ensures in
    (c.in_ok-payload.payload, subst (λ n. IsReached (at (seen c.grow.new.client)) n c.in_ok-payload.payload (slot_of (at (seen c.grow.new.client) root) 13) c.in-Some.found.1) (sym turned) (high_way (seen c.args.client.now) (seen c.grow.new.client) c.args.guide c.args.below c.in_ok-payload.payload c.args.id c.in-Some.found.0 c.in-Some.found.1 l4.graph c.requires.way less c.requires.few i))

pub reach-requires-clause-rooted : goal.reach-requires-clause-rooted
reach-requires-clause-rooted g t c κs within =
    let l : Looks c.args.client.now c.read.new.self = (looks_then (looks_payload c.in_ok-payload.ensures.asks c.in_ok-payload.ensures.same) (looks_once c.in_ok-cell.ensures.asks c.in_ok-cell.ensures.loads.graph)) in
    let l2 : Looks c.args.client.now c.sides.new.client = looks_then l c.in_ok-looked.ensures.scans.look in
    let l3 : Looks c.args.client.now c.read-2.new.self = looks_then l2 (looks_once c.in_ok-read.ensures.asks c.in_ok-read.ensures.loads.graph) in
    let l4 : Looks c.args.client.now c.grow.new.client = looks_then l3 c.in-Ok.ensures.looks in
    l4.asks.rooted ∙ c.requires.rooted

pub reach-requires-clause-start : goal.reach-requires-clause-start
reach-requires-clause-start g t c κs within =
    let l : Looks c.args.client.now c.read.new.self = (looks_then (looks_payload c.in_ok-payload.ensures.asks c.in_ok-payload.ensures.same) (looks_once c.in_ok-cell.ensures.asks c.in_ok-cell.ensures.loads.graph)) in
    let l2 : Looks c.args.client.now c.sides.new.client = looks_then l c.in_ok-looked.ensures.scans.look in
    let l3 : Looks c.args.client.now c.read-2.new.self = looks_then l2 (looks_once c.in_ok-read.ensures.asks c.in_ok-read.ensures.loads.graph) in
    let l4 : Looks c.args.client.now c.grow.new.client = looks_then l3 c.in-Ok.ensures.looks in
    λ z. c.requires.start (ap (λ x. slot_of (object_at x root) 13) (sym l4.graph) ∙ z)

pub returns-in_err-reach-clause-refused : goal.returns-in_err-reach-clause-refused
returns-in_err-reach-clause-refused g t c =
    let l : Looks c.args.client.now c.read.new.self = (looks_then (looks_payload c.in_ok-payload.ensures.asks c.in_ok-payload.ensures.same) (looks_once c.in_ok-cell.ensures.asks c.in_ok-cell.ensures.loads.graph)) in
    let l2 : Looks c.args.client.now c.sides.new.client = looks_then l c.in_ok-looked.ensures.scans.look in
    let l3 : Looks c.args.client.now c.read-2.new.self = looks_then l2 (looks_once c.in_ok-read.ensures.asks c.in_ok-read.ensures.loads.graph) in
    let l4 : Looks c.args.client.now c.grow.new.client = looks_then l3 c.in-Ok.ensures.looks in
    out c.from_residual-in_err-reach.result _ c.from_residual-in_err-reach.ensures.1 (falls (falls_looked l4 c.in_err-reach.ensures.refused))

pub grow-requires-2-clause-rooted : goal.grow-requires-2-clause-rooted
grow-requires-2-clause-rooted g t c κs within =
    let l : Looks c.args.client.now c.read.new.self = (looks_then (looks_payload c.in_ok-payload.ensures.asks c.in_ok-payload.ensures.same) (looks_once c.in_ok-cell.ensures.asks c.in_ok-cell.ensures.loads.graph)) in
    let l2 : Looks c.args.client.now c.sides.new.client = looks_then l c.in_ok-looked.ensures.scans.look in
    let l3 : Looks c.args.client.now c.read-2.new.self = looks_then l2 (looks_once c.in_ok-read.ensures.asks c.in_ok-read.ensures.loads.graph) in
    let l4 : Looks c.args.client.now c.grow.new.client = looks_then l3 c.in-Ok.ensures.looks in
    let l5 : Looks c.args.client.now c.reach.new.client = looks_then l4 c.in_ok-reach.ensures.looks in
    l5.asks.rooted ∙ c.requires.rooted

pub grow-requires-2-clause-start : goal.grow-requires-2-clause-start
grow-requires-2-clause-start g t c κs within =
    let l : Looks c.args.client.now c.read.new.self = (looks_then (looks_payload c.in_ok-payload.ensures.asks c.in_ok-payload.ensures.same) (looks_once c.in_ok-cell.ensures.asks c.in_ok-cell.ensures.loads.graph)) in
    let l2 : Looks c.args.client.now c.sides.new.client = looks_then l c.in_ok-looked.ensures.scans.look in
    let l3 : Looks c.args.client.now c.read-2.new.self = looks_then l2 (looks_once c.in_ok-read.ensures.asks c.in_ok-read.ensures.loads.graph) in
    let l4 : Looks c.args.client.now c.grow.new.client = looks_then l3 c.in-Ok.ensures.looks in
    let l5 : Looks c.args.client.now c.reach.new.client = looks_then l4 c.in_ok-reach.ensures.looks in
    λ z. c.requires.start (ap (λ x. slot_of (object_at x root) 13) (sym l5.graph) ∙ z)

pub grow-requires-2-clause-here : goal.grow-requires-2-clause-here
grow-requires-2-clause-here g t c κs within =
    c.in_ok-reach.ensures.here

pub grow-requires-2-clause-few : goal.grow-requires-2-clause-few
grow-requires-2-clause-few g t c κs within =
    let less : c.in_ok-payload.payload < c.args.below = c.if-payload-below.false in
    (let few : c.args.below ≤ 64 = c.requires.few in omega (arith, less, few))

pub grow-requires-2-clause-clear : goal.grow-requires-2-clause-clear
grow-requires-2-clause-clear g t c κs within =
    let less : c.in_ok-payload.payload < c.args.below = c.if-payload-below.false in
    let turned : c.fork_at-fork.result.turned ≡ bit_or c.args.guide (1 * 2 ^ c.in_ok-payload.payload % 2 ^ 64) = ap (λ (k : Fork). k.turned) c.fork_at-fork.ensures in
    subst (λ n. (b : ℕ) → b < c.in_ok-payload.payload → bit_at n b ≡ 0) (sym turned) (clear_high c.args.guide c.args.below c.in_ok-payload.payload less c.requires.few c.requires.clear)

pub grow-requires-2-clause-way : goal.grow-requires-2-clause-way
grow-requires-2-clause-way g t c κs within =
    let o : AtObject (seen c.args.client.now) (seen c.read.new.self) c.args.id c.in_ok-payload.payload c.in_ok-cell.cell = at_object (seen c.args.client.now) (seen c.get_pay.new.self) (seen c.read.new.self) c.args.id c.in_ok-payload.payload c.in_ok-cell.cell c.requires.here c.requires.rooted c.in_ok-payload.ensures.same c.in_ok-payload.ensures.ok c.in_ok-cell.ensures.ok c.in_ok-cell.ensures.loads in
    let l : Looks c.args.client.now c.read.new.self = (looks_then (looks_payload c.in_ok-payload.ensures.asks c.in_ok-payload.ensures.same) (looks_once c.in_ok-cell.ensures.asks c.in_ok-cell.ensures.loads.graph)) in
    let l2 : Looks c.args.client.now c.sides.new.client = looks_then l c.in_ok-looked.ensures.scans.look in
    let l3 : Looks c.args.client.now c.read-2.new.self = looks_then l2 (looks_once c.in_ok-read.ensures.asks c.in_ok-read.ensures.loads.graph) in
    let l4 : Looks c.args.client.now c.grow.new.client = looks_then l3 c.in-Ok.ensures.looks in
    let l5 : Looks c.args.client.now c.reach.new.client = looks_then l4 c.in_ok-reach.ensures.looks in
    let i : IsInner (at (seen c.args.client.now) c.args.id) c.in_ok-payload.payload c.in-Some.found.0 c.in-Some.found.1 = inner_found (seen c.args.client.now) (seen c.read.new.self) 1 c.args.id c.in_ok-payload.payload c.in-Some.found.0 c.in-Some.found.1 o.graph o.here o.number (inner_given (seen c.read.new.self) c.in_ok-looked.looked c.in-Some.found c.in_ok-looked.ensures.inner c.in-Some.is) in
    let less : c.in_ok-payload.payload < c.args.below = c.if-payload-below.false in
    let turned : c.fork_at-fork.result.turned ≡ bit_or c.args.guide (1 * 2 ^ c.in_ok-payload.payload % 2 ^ 64) = ap (λ (k : Fork). k.turned) c.fork_at-fork.ensures in
    subst (λ n. IsReached (at (seen c.reach.new.client)) n c.in_ok-payload.payload (slot_of (at (seen c.reach.new.client) root) 13) c.in-Some.found.1) (sym turned) (high_way (seen c.args.client.now) (seen c.reach.new.client) c.args.guide c.args.below c.in_ok-payload.payload c.args.id c.in-Some.found.0 c.in-Some.found.1 l5.graph c.requires.way less c.requires.few i)

-- ---- a refusal below the high slot

pub blame-requires-in-Err-grow-clause-ready : goal.blame-requires-in-Err-grow-clause-ready
blame-requires-in-Err-grow-clause-ready g t c κs within =
    let o : AtObject (seen c.args.client.now) (seen c.read.new.self) c.args.id c.in_ok-payload.payload c.in_ok-cell.cell = at_object (seen c.args.client.now) (seen c.get_pay.new.self) (seen c.read.new.self) c.args.id c.in_ok-payload.payload c.in_ok-cell.cell c.requires.here c.requires.rooted c.in_ok-payload.ensures.same c.in_ok-payload.ensures.ok c.in_ok-cell.ensures.ok c.in_ok-cell.ensures.loads in
    let l : Looks c.args.client.now c.read.new.self = (looks_then (looks_payload c.in_ok-payload.ensures.asks c.in_ok-payload.ensures.same) (looks_once c.in_ok-cell.ensures.asks c.in_ok-cell.ensures.loads.graph)) in
    let l2 : Looks c.args.client.now c.sides.new.client = looks_then l c.in_ok-looked.ensures.scans.look in
    let l3 : Looks c.args.client.now c.read-2.new.self = looks_then l2 (looks_once c.in_ok-read.ensures.asks c.in_ok-read.ensures.loads.graph) in
    let l4 : Looks c.args.client.now c.grow.new.client = looks_then l3 c.in-Ok.ensures.looks in
    let l5 : Looks c.args.client.now c.reach.new.client = looks_then l4 c.in_ok-reach.ensures.looks in
    let i : IsInner (at (seen c.args.client.now) c.args.id) c.in_ok-payload.payload c.in-Some.found.0 c.in-Some.found.1 = inner_found (seen c.args.client.now) (seen c.read.new.self) 1 c.args.id c.in_ok-payload.payload c.in-Some.found.0 c.in-Some.found.1 o.graph o.here o.number (inner_given (seen c.read.new.self) c.in_ok-looked.looked c.in-Some.found c.in_ok-looked.ensures.inner c.in-Some.is) in
    let less : c.in_ok-payload.payload < c.args.below = c.if-payload-below.false in
    let fork : IsFork (at (seen c.args.client.now)) (slot_of (at (seen c.args.client.now) root) 13) c.fork_at-fork.result = fork_is (at (seen c.args.client.now)) (slot_of (at (seen c.args.client.now) root) 13) c.fork_at-fork.result c.args.id c.in_ok-payload.payload c.in-Some.found.0 c.in-Some.found.1 c.args.guide c.args.below c.fork_at-fork.ensures i less c.requires.few c.requires.way c.requires.clear in
    λ d e.
    let y : Denied (NoTree (at (seen c.reach.new.client)) c.in-Some.found.1 c.in_ok-payload.payload c.grow.new.cells.keys) c.reach.new.client c.grow-2.new.client = denied c.in-Err-grow.ensures.refused d e in
    let l6 : Looks c.args.client.now c.grow-2.new.client = looks_then l5 y.looks in
    ready_later (seen c.args.client.now) (seen c.grow-2.new.client) c.fork_at-fork.result l6.graph (l6.asks.rooted ∙ c.requires.rooted) c.requires.start fork

pub returns-in-Err-grow-clause-refused : goal.returns-in-Err-grow-clause-refused
returns-in-Err-grow-clause-refused g t c =
    let o : AtObject (seen c.args.client.now) (seen c.read.new.self) c.args.id c.in_ok-payload.payload c.in_ok-cell.cell = at_object (seen c.args.client.now) (seen c.get_pay.new.self) (seen c.read.new.self) c.args.id c.in_ok-payload.payload c.in_ok-cell.cell c.requires.here c.requires.rooted c.in_ok-payload.ensures.same c.in_ok-payload.ensures.ok c.in_ok-cell.ensures.ok c.in_ok-cell.ensures.loads in
    let l : Looks c.args.client.now c.read.new.self = (looks_then (looks_payload c.in_ok-payload.ensures.asks c.in_ok-payload.ensures.same) (looks_once c.in_ok-cell.ensures.asks c.in_ok-cell.ensures.loads.graph)) in
    let l2 : Looks c.args.client.now c.sides.new.client = looks_then l c.in_ok-looked.ensures.scans.look in
    let l3 : Looks c.args.client.now c.read-2.new.self = looks_then l2 (looks_once c.in_ok-read.ensures.asks c.in_ok-read.ensures.loads.graph) in
    let l4 : Looks c.args.client.now c.grow.new.client = looks_then l3 c.in-Ok.ensures.looks in
    let t1 : Grown (at (seen c.args.client.now)) c.in-Some.found.0 c.in_ok-payload.payload c.in-Ok.first c.args.cells.now.keys c.grow.new.cells.keys = moved (seen c.args.client.now) (seen c.read-2.new.self) (λ f. Grown f c.in-Some.found.0 c.in_ok-payload.payload c.in-Ok.first c.args.cells.now.keys c.grow.new.cells.keys) l3.graph c.in-Ok.ensures.grown in
    let l5 : Looks c.args.client.now c.reach.new.client = looks_then l4 c.in_ok-reach.ensures.looks in
    let i : IsInner (at (seen c.args.client.now) c.args.id) c.in_ok-payload.payload c.in-Some.found.0 c.in-Some.found.1 = inner_found (seen c.args.client.now) (seen c.read.new.self) 1 c.args.id c.in_ok-payload.payload c.in-Some.found.0 c.in-Some.found.1 o.graph o.here o.number (inner_given (seen c.read.new.self) c.in_ok-looked.looked c.in-Some.found c.in_ok-looked.ensures.inner c.in-Some.is) in
    blamed l5 (λ n. no_high (at (seen c.args.client.now)) c.args.id c.in-Some.found.0 c.in-Some.found.1 c.in_ok-payload.payload c.args.below c.in-Ok.first c.args.cells.now.keys c.grow.new.cells.keys i (inner_null (at (seen c.args.client.now) c.args.id) c.in_ok-payload.payload c.in-Some.found.0 c.in-Some.found.1 i) t1 (moved (seen c.args.client.now) (seen c.reach.new.client) (λ f. NoTree f c.in-Some.found.1 c.in_ok-payload.payload c.grow.new.cells.keys) l5.graph n)) c.in-Err-grow.ensures.refused c.blame-in-Err-grow.ensures

pub returns-in-Err-grow-clause-first : goal.returns-in-Err-grow-clause-first
returns-in-Err-grow-clause-first g t c =
    let o : AtObject (seen c.args.client.now) (seen c.read.new.self) c.args.id c.in_ok-payload.payload c.in_ok-cell.cell = at_object (seen c.args.client.now) (seen c.get_pay.new.self) (seen c.read.new.self) c.args.id c.in_ok-payload.payload c.in_ok-cell.cell c.requires.here c.requires.rooted c.in_ok-payload.ensures.same c.in_ok-payload.ensures.ok c.in_ok-cell.ensures.ok c.in_ok-cell.ensures.loads in
    let l : Looks c.args.client.now c.read.new.self = (looks_then (looks_payload c.in_ok-payload.ensures.asks c.in_ok-payload.ensures.same) (looks_once c.in_ok-cell.ensures.asks c.in_ok-cell.ensures.loads.graph)) in
    let l2 : Looks c.args.client.now c.sides.new.client = looks_then l c.in_ok-looked.ensures.scans.look in
    let l3 : Looks c.args.client.now c.read-2.new.self = looks_then l2 (looks_once c.in_ok-read.ensures.asks c.in_ok-read.ensures.loads.graph) in
    let l4 : Looks c.args.client.now c.grow.new.client = looks_then l3 c.in-Ok.ensures.looks in
    let t1 : Grown (at (seen c.args.client.now)) c.in-Some.found.0 c.in_ok-payload.payload c.in-Ok.first c.args.cells.now.keys c.grow.new.cells.keys = moved (seen c.args.client.now) (seen c.read-2.new.self) (λ f. Grown f c.in-Some.found.0 c.in_ok-payload.payload c.in-Ok.first c.args.cells.now.keys c.grow.new.cells.keys) l3.graph c.in-Ok.ensures.grown in
    let l5 : Looks c.args.client.now c.reach.new.client = looks_then l4 c.in_ok-reach.ensures.looks in
    let i : IsInner (at (seen c.args.client.now) c.args.id) c.in_ok-payload.payload c.in-Some.found.0 c.in-Some.found.1 = inner_found (seen c.args.client.now) (seen c.read.new.self) 1 c.args.id c.in_ok-payload.payload c.in-Some.found.0 c.in-Some.found.1 o.graph o.here o.number (inner_given (seen c.read.new.self) c.in_ok-looked.looked c.in-Some.found c.in_ok-looked.ensures.inner c.in-Some.is) in
    let less : c.in_ok-payload.payload < c.args.below = c.if-payload-below.false in
    let own : c.fork_at-fork.result.id ≡ c.args.id = ap (λ (k : Fork). k.id) c.fork_at-fork.ensures in
    let here : (d : ℕ) → c.in-Err-grow.why ≡ MapRefusal.NotMap d → HasWrongKey (at (seen c.grow-2.new.client)) c.fork_at-fork.result.id → IsFirst (at (seen c.args.client.now)) (IsMet c.args.cells.now.keys) c.args.below c.args.id c.fork_at-fork.result.id = λ d e w.
    (let g2 : (seen c.grow-2.new.client).graph ≡ (seen c.args.client.now).graph = (looks_then l5 (denied c.in-Err-grow.ensures.refused d e).looks).graph in
    subst (λ d. IsFirst (at (seen c.args.client.now)) (IsMet c.args.cells.now.keys) c.args.below c.args.id d) (sym own) (inner_first (at (seen c.args.client.now)) (IsMet c.args.cells.now.keys) c.args.below c.args.id (reached_named (at (seen c.args.client.now)) c.args.guide c.args.below (slot_of (at (seen c.args.client.now) root) 13) c.args.id c.requires.start c.requires.way) (inner_null (at (seen c.args.client.now) c.args.id) c.in_ok-payload.payload c.in-Some.found.0 c.in-Some.found.1 i) (mixes (subst (λ y. HasWrongKey (at (seen c.args.client.now)) y) own (moved (seen c.args.client.now) (seen c.grow-2.new.client) (λ f. HasWrongKey f c.fork_at-fork.result.id) g2 w))))) in
    let under : (d : ℕ) → c.in-Err-grow.why ≡ MapRefusal.NotMap d → (HasWrongKey (at (seen c.grow-2.new.client)) c.fork_at-fork.result.id → ⊥) → IsFirst (at (seen c.args.client.now)) (IsMet c.args.cells.now.keys) c.args.below c.args.id d = λ d e none.
    (let g2 : (seen c.grow-2.new.client).graph ≡ (seen c.args.client.now).graph = (looks_then l5 (denied c.in-Err-grow.ensures.refused d e).looks).graph in
    let right : HasWrongKey (at (seen c.args.client.now)) c.args.id → ⊥ = λ h. none (moved_on (seen c.args.client.now) (seen c.grow-2.new.client) (λ f. HasWrongKey f c.fork_at-fork.result.id) g2 (subst (λ y. HasWrongKey (at (seen c.args.client.now)) y) (sym own) h)) in
    high_first (at (seen c.args.client.now)) c.args.id c.in-Some.found.0 c.in-Some.found.1 c.in_ok-payload.payload c.args.below c.in-Ok.first d c.args.cells.now.keys c.grow.new.cells.keys (reached_named (at (seen c.args.client.now)) c.args.guide c.args.below (slot_of (at (seen c.args.client.now) root) 13) c.args.id c.requires.start c.requires.way) i less right t1 (moved (seen c.args.client.now) (seen c.reach.new.client) (λ f. IsFirst f (IsMet c.grow.new.cells.keys) c.in_ok-payload.payload c.in-Some.found.1 d) l5.graph (c.in-Err-grow.ensures.first d e))) in
    blamed_first (λ d. IsFirst (at (seen c.args.client.now)) (IsMet c.args.cells.now.keys) c.args.below c.args.id d) under here c.blame-in-Err-grow.ensures

-- ---- both

pub do_part-requires : goal.do_part-requires
do_part-requires g t c =
    let less : c.in_ok-payload.payload < c.args.below = c.if-payload-below.false in
    let few : c.args.below ≤ 64 = c.requires.few in
    record { number = omega (arith, less, few) }

pub returns-then-not-do_part-clause-refused : goal.returns-then-not-do_part-clause-refused
returns-then-not-do_part-clause-refused g t c =
    let o : AtObject (seen c.args.client.now) (seen c.read.new.self) c.args.id c.in_ok-payload.payload c.in_ok-cell.cell = at_object (seen c.args.client.now) (seen c.get_pay.new.self) (seen c.read.new.self) c.args.id c.in_ok-payload.payload c.in_ok-cell.cell c.requires.here c.requires.rooted c.in_ok-payload.ensures.same c.in_ok-payload.ensures.ok c.in_ok-cell.ensures.ok c.in_ok-cell.ensures.loads in
    let l : Looks c.args.client.now c.read.new.self = (looks_then (looks_payload c.in_ok-payload.ensures.asks c.in_ok-payload.ensures.same) (looks_once c.in_ok-cell.ensures.asks c.in_ok-cell.ensures.loads.graph)) in
    let l2 : Looks c.args.client.now c.sides.new.client = looks_then l c.in_ok-looked.ensures.scans.look in
    let l3 : Looks c.args.client.now c.read-2.new.self = looks_then l2 (looks_once c.in_ok-read.ensures.asks c.in_ok-read.ensures.loads.graph) in
    let l4 : Looks c.args.client.now c.grow.new.client = looks_then l3 c.in-Ok.ensures.looks in
    let t1 : Grown (at (seen c.args.client.now)) c.in-Some.found.0 c.in_ok-payload.payload c.in-Ok.first c.args.cells.now.keys c.grow.new.cells.keys = moved (seen c.args.client.now) (seen c.read-2.new.self) (λ f. Grown f c.in-Some.found.0 c.in_ok-payload.payload c.in-Ok.first c.args.cells.now.keys c.grow.new.cells.keys) l3.graph c.in-Ok.ensures.grown in
    let l5 : Looks c.args.client.now c.reach.new.client = looks_then l4 c.in_ok-reach.ensures.looks in
    let l6 : Looks c.args.client.now c.grow-2.new.client = looks_then l5 c.in-Ok-grow.ensures.looks in
    let t2 : Grown (at (seen c.args.client.now)) c.in-Some.found.1 c.in_ok-payload.payload c.in-Ok-grow.last c.grow.new.cells.keys c.grow-2.new.cells.keys = moved (seen c.args.client.now) (seen c.reach.new.client) (λ f. Grown f c.in-Some.found.1 c.in_ok-payload.payload c.in-Ok-grow.last c.grow.new.cells.keys c.grow-2.new.cells.keys) l5.graph c.in-Ok-grow.ensures.grown in
    let i : IsInner (at (seen c.args.client.now) c.args.id) c.in_ok-payload.payload c.in-Some.found.0 c.in-Some.found.1 = inner_found (seen c.args.client.now) (seen c.read.new.self) 1 c.args.id c.in_ok-payload.payload c.in-Some.found.0 c.in-Some.found.1 o.graph o.here o.number (inner_given (seen c.read.new.self) c.in_ok-looked.looked c.in-Some.found c.in_ok-looked.ensures.inner c.in-Some.is) in
    denies c.args.id refl (no_parts (at (seen c.args.client.now)) c.args.id c.in-Some.found.0 c.in-Some.found.1 c.in_ok-payload.payload c.args.below c.in-Ok.first c.in-Ok-grow.last c.args.cells.now.keys c.grow.new.cells.keys c.grow-2.new.cells.keys i (inner_null (at (seen c.args.client.now) c.args.id) c.in_ok-payload.payload c.in-Some.found.0 c.in-Some.found.1 i) t1 t2 (λ d. never_true (sym c.if-not-do_part.true ∙ c.do_part.ensures.1 (part_does c.in-Ok.first c.in-Ok-grow.last c.in_ok-payload.payload d)))) l6

pub returns-then-not-do_part-clause-first : goal.returns-then-not-do_part-clause-first
returns-then-not-do_part-clause-first g t c =
    let o : AtObject (seen c.args.client.now) (seen c.read.new.self) c.args.id c.in_ok-payload.payload c.in_ok-cell.cell = at_object (seen c.args.client.now) (seen c.get_pay.new.self) (seen c.read.new.self) c.args.id c.in_ok-payload.payload c.in_ok-cell.cell c.requires.here c.requires.rooted c.in_ok-payload.ensures.same c.in_ok-payload.ensures.ok c.in_ok-cell.ensures.ok c.in_ok-cell.ensures.loads in
    let l : Looks c.args.client.now c.read.new.self = (looks_then (looks_payload c.in_ok-payload.ensures.asks c.in_ok-payload.ensures.same) (looks_once c.in_ok-cell.ensures.asks c.in_ok-cell.ensures.loads.graph)) in
    let l2 : Looks c.args.client.now c.sides.new.client = looks_then l c.in_ok-looked.ensures.scans.look in
    let l3 : Looks c.args.client.now c.read-2.new.self = looks_then l2 (looks_once c.in_ok-read.ensures.asks c.in_ok-read.ensures.loads.graph) in
    let l4 : Looks c.args.client.now c.grow.new.client = looks_then l3 c.in-Ok.ensures.looks in
    let t1 : Grown (at (seen c.args.client.now)) c.in-Some.found.0 c.in_ok-payload.payload c.in-Ok.first c.args.cells.now.keys c.grow.new.cells.keys = moved (seen c.args.client.now) (seen c.read-2.new.self) (λ f. Grown f c.in-Some.found.0 c.in_ok-payload.payload c.in-Ok.first c.args.cells.now.keys c.grow.new.cells.keys) l3.graph c.in-Ok.ensures.grown in
    let l5 : Looks c.args.client.now c.reach.new.client = looks_then l4 c.in_ok-reach.ensures.looks in
    let t2 : Grown (at (seen c.args.client.now)) c.in-Some.found.1 c.in_ok-payload.payload c.in-Ok-grow.last c.grow.new.cells.keys c.grow-2.new.cells.keys = moved (seen c.args.client.now) (seen c.reach.new.client) (λ f. Grown f c.in-Some.found.1 c.in_ok-payload.payload c.in-Ok-grow.last c.grow.new.cells.keys c.grow-2.new.cells.keys) l5.graph c.in-Ok-grow.ensures.grown in
    let i : IsInner (at (seen c.args.client.now) c.args.id) c.in_ok-payload.payload c.in-Some.found.0 c.in-Some.found.1 = inner_found (seen c.args.client.now) (seen c.read.new.self) 1 c.args.id c.in_ok-payload.payload c.in-Some.found.0 c.in-Some.found.1 o.graph o.here o.number (inner_given (seen c.read.new.self) c.in_ok-looked.looked c.in-Some.found c.in_ok-looked.ensures.inner c.in-Some.is) in
    let wrong : HasWrongKey (at (seen c.args.client.now)) c.args.id = parts_wrong (at (seen c.args.client.now)) c.args.id c.in-Some.found.0 c.in-Some.found.1 c.in_ok-payload.payload c.in-Ok.first c.in-Ok-grow.last c.args.cells.now.keys c.grow.new.cells.keys c.grow-2.new.cells.keys i t1 t2 (λ d. never_true (sym c.if-not-do_part.true ∙ c.do_part.ensures.1 (part_does c.in-Ok.first c.in-Ok-grow.last c.in_ok-payload.payload d))) in
    λ d e. subst (λ d. IsFirst (at (seen c.args.client.now)) (IsMet c.args.cells.now.keys) c.args.below c.args.id d) (same_name c.args.id d e) (inner_first (at (seen c.args.client.now)) (IsMet c.args.cells.now.keys) c.args.below c.args.id (reached_named (at (seen c.args.client.now)) c.args.guide c.args.below (slot_of (at (seen c.args.client.now) root) 13) c.args.id c.requires.start c.requires.way) (inner_null (at (seen c.args.client.now) c.args.id) c.in_ok-payload.payload c.in-Some.found.0 c.in-Some.found.1 i) (mixes wrong))

pub returns-clause-grown : goal.returns-clause-grown
returns-clause-grown g t c =
    let o : AtObject (seen c.args.client.now) (seen c.read.new.self) c.args.id c.in_ok-payload.payload c.in_ok-cell.cell = at_object (seen c.args.client.now) (seen c.get_pay.new.self) (seen c.read.new.self) c.args.id c.in_ok-payload.payload c.in_ok-cell.cell c.requires.here c.requires.rooted c.in_ok-payload.ensures.same c.in_ok-payload.ensures.ok c.in_ok-cell.ensures.ok c.in_ok-cell.ensures.loads in
    let l : Looks c.args.client.now c.read.new.self = (looks_then (looks_payload c.in_ok-payload.ensures.asks c.in_ok-payload.ensures.same) (looks_once c.in_ok-cell.ensures.asks c.in_ok-cell.ensures.loads.graph)) in
    let l2 : Looks c.args.client.now c.sides.new.client = looks_then l c.in_ok-looked.ensures.scans.look in
    let l3 : Looks c.args.client.now c.read-2.new.self = looks_then l2 (looks_once c.in_ok-read.ensures.asks c.in_ok-read.ensures.loads.graph) in
    let l4 : Looks c.args.client.now c.grow.new.client = looks_then l3 c.in-Ok.ensures.looks in
    let t1 : Grown (at (seen c.args.client.now)) c.in-Some.found.0 c.in_ok-payload.payload c.in-Ok.first c.args.cells.now.keys c.grow.new.cells.keys = moved (seen c.args.client.now) (seen c.read-2.new.self) (λ f. Grown f c.in-Some.found.0 c.in_ok-payload.payload c.in-Ok.first c.args.cells.now.keys c.grow.new.cells.keys) l3.graph c.in-Ok.ensures.grown in
    let l5 : Looks c.args.client.now c.reach.new.client = looks_then l4 c.in_ok-reach.ensures.looks in
    let l6 : Looks c.args.client.now c.grow-2.new.client = looks_then l5 c.in-Ok-grow.ensures.looks in
    let t2 : Grown (at (seen c.args.client.now)) c.in-Some.found.1 c.in_ok-payload.payload c.in-Ok-grow.last c.grow.new.cells.keys c.grow-2.new.cells.keys = moved (seen c.args.client.now) (seen c.reach.new.client) (λ f. Grown f c.in-Some.found.1 c.in_ok-payload.payload c.in-Ok-grow.last c.grow.new.cells.keys c.grow-2.new.cells.keys) l5.graph c.in-Ok-grow.ensures.grown in
    let i : IsInner (at (seen c.args.client.now) c.args.id) c.in_ok-payload.payload c.in-Some.found.0 c.in-Some.found.1 = inner_found (seen c.args.client.now) (seen c.read.new.self) 1 c.args.id c.in_ok-payload.payload c.in-Some.found.0 c.in-Some.found.1 o.graph o.here o.number (inner_given (seen c.read.new.self) c.in_ok-looked.looked c.in-Some.found c.in_ok-looked.ensures.inner c.in-Some.is) in
    let less : c.in_ok-payload.payload < c.args.below = c.if-payload-below.false in
    inner_grown (at (seen c.args.client.now)) c.args.id c.in-Some.found.0 c.in-Some.found.1 c.in_ok-payload.payload c.args.below c.in-Ok.first c.in-Ok-grow.last c.args.cells.now.keys c.grow.new.cells.keys c.grow-2.new.cells.keys i less c.requires.few t1 t2 (do_part c.in-Ok.first c.in-Ok-grow.last c.in_ok-payload.payload (c.do_part.ensures.0 c.if-not-do_part.false))

pub returns-clause-looks : goal.returns-clause-looks
returns-clause-looks g t c =
    let l : Looks c.args.client.now c.read.new.self = (looks_then (looks_payload c.in_ok-payload.ensures.asks c.in_ok-payload.ensures.same) (looks_once c.in_ok-cell.ensures.asks c.in_ok-cell.ensures.loads.graph)) in
    let l2 : Looks c.args.client.now c.sides.new.client = looks_then l c.in_ok-looked.ensures.scans.look in
    let l3 : Looks c.args.client.now c.read-2.new.self = looks_then l2 (looks_once c.in_ok-read.ensures.asks c.in_ok-read.ensures.loads.graph) in
    let l4 : Looks c.args.client.now c.grow.new.client = looks_then l3 c.in-Ok.ensures.looks in
    let l5 : Looks c.args.client.now c.reach.new.client = looks_then l4 c.in_ok-reach.ensures.looks in
    looks_then l5 c.in-Ok-grow.ensures.looks

-- ---- what the store refuses names no object

pub returns-in_err-payload-clause-first : goal.returns-in_err-payload-clause-first
returns-in_err-payload-clause-first g t c = out c.from_residual.result _ c.from_residual.ensures.1 (λ d e. absurd (falls_names c.in_err-payload.ensures.refused d e))

pub returns-in_err-cell-clause-first : goal.returns-in_err-cell-clause-first
returns-in_err-cell-clause-first g t c = out c.from_residual-in_err-cell.result _ c.from_residual-in_err-cell.ensures.1 (λ d e. absurd (falls_names c.in_err-cell.ensures.refused d e))

pub returns-in_err-looked-clause-first : goal.returns-in_err-looked-clause-first
returns-in_err-looked-clause-first g t c = out c.from_residual-in_err-looked.result _ c.from_residual-in_err-looked.ensures.1 (λ d e. absurd (falls_names c.in_err-looked.ensures.refused d e))

pub returns-in_err-read-clause-first : goal.returns-in_err-read-clause-first
returns-in_err-read-clause-first g t c = out c.from_residual-in_err-read.result _ c.from_residual-in_err-read.ensures.1 (λ d e. absurd (falls_names c.in_err-read.ensures.refused d e))

pub returns-in_err-reach-clause-first : goal.returns-in_err-reach-clause-first
returns-in_err-reach-clause-first g t c = out c.from_residual-in_err-reach.result _ c.from_residual-in_err-reach.ensures.1 (λ d e. absurd (falls_names c.in_err-reach.ensures.refused d e))

-- ---- how many calls

pub returns-then-cell-ne0-clause-asks : goal.returns-then-cell-ne0-clause-asks
returns-then-cell-ne0-clause-asks g t c = λ x e h. looks_leaf (forks_in x) c.in_ok-payload.ensures.asks c.in_ok-cell.ensures.asks c.in_ok-meet_leaf.ensures.asks

pub returns-clause-asks : goal.returns-clause-asks
returns-clause-asks g t c = λ x e h.
    let o : AtObject (seen c.args.client.now) (seen c.read.new.self) c.args.id c.in_ok-payload.payload c.in_ok-cell.cell = at_object (seen c.args.client.now) (seen c.get_pay.new.self) (seen c.read.new.self) c.args.id c.in_ok-payload.payload c.in_ok-cell.cell c.requires.here c.requires.rooted c.in_ok-payload.ensures.same c.in_ok-payload.ensures.ok c.in_ok-cell.ensures.ok c.in_ok-cell.ensures.loads in
    let l : Looks c.args.client.now c.read.new.self = (looks_then (looks_payload c.in_ok-payload.ensures.asks c.in_ok-payload.ensures.same) (looks_once c.in_ok-cell.ensures.asks c.in_ok-cell.ensures.loads.graph)) in
    let l2 : Looks c.args.client.now c.sides.new.client = looks_then l c.in_ok-looked.ensures.scans.look in
    let l3 : Looks c.args.client.now c.read-2.new.self = looks_then l2 (looks_once c.in_ok-read.ensures.asks c.in_ok-read.ensures.loads.graph) in
    let l4 : Looks c.args.client.now c.grow.new.client = looks_then l3 c.in-Ok.ensures.looks in
    let l5 : Looks c.args.client.now c.reach.new.client = looks_then l4 c.in_ok-reach.ensures.looks in
    let i : IsInner (at (seen c.args.client.now) c.args.id) c.in_ok-payload.payload c.in-Some.found.0 c.in-Some.found.1 = inner_found (seen c.args.client.now) (seen c.read.new.self) 1 c.args.id c.in_ok-payload.payload c.in-Some.found.0 c.in-Some.found.1 o.graph o.here o.number (inner_given (seen c.read.new.self) c.in_ok-looked.looked c.in-Some.found c.in_ok-looked.ensures.inner c.in-Some.is) in
    let two : TwoSides (at (seen c.args.client.now)) c.in-Some.found.0 c.in-Some.found.1 (forks_in x) = two_sides_of (at (seen c.args.client.now)) c.args.id c.in_ok-payload.payload c.in-Some.found.0 c.in-Some.found.1 x i e h in
    looks_inner (forks_in two.left) (forks_in two.right) (forks_in x) c.in_ok-payload.ensures.asks c.in_ok-cell.ensures.asks c.in_ok-looked.ensures.asks c.in_ok-read.ensures.asks
    (c.in-Ok.ensures.asks two.left two.left_id (moved_on (seen c.args.client.now) (seen c.read-2.new.self) (λ f. AreObjects f two.left) l3.graph two.left_objects)) c.in_ok-reach.ensures.asks
    (c.in-Ok-grow.ensures.asks two.right two.right_id (moved_on (seen c.args.client.now) (seen c.reach.new.client) (λ f. AreObjects f two.right) l5.graph two.right_objects)) two.count
