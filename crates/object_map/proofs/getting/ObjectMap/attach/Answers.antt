use Rattle.std.proofs.Common.{◌≡◌, ◌≤◌, ◌+◌, ◌*◌, [], length, ap, ◌∙◌, subst, arith}
use Rattle.plain_model.specs.Graphs.{root}
use Rattle.object_map.specs.Broken.{IsFirst, IsMet}
use Rattle.object_map.specs.Clients.{seen}
use Rattle.object_map.specs.Maps.{AreObjects, slot_of}
use Rattle.object_map.specs.Seen.{at}
use Rattle.object_map.specs.Walking.{Grown, NoTree}
use Rattle.object_map.proofs.AskLaws.{asks_within, out}
use Rattle.object_map.proofs.BoundLaws.{looks_map}
use Rattle.object_map.proofs.BlameLaws.{falls_names}
use Rattle.object_map.proofs.FirstLaws.{first_broken}
use Rattle.object_map.proofs.WayLaws.{held_here}
use Rattle.object_map.proofs.GrowLaws.{moved, moved_on}
use Rattle.object_map.proofs.GuideLaws.{map_found, map_missed}
use Rattle.object_map.proofs.WalkLaws.{looks_then, looks_once, refuses_after}
use Rattle.object_map.proofs.getting.ObjectMap.attach.Goals as goal

pub returns-clause-map : goal.returns-clause-map
returns-clause-map g c =
    let v = seen c.args.client.now in
    let told : c.in_ok-id.id ≡ slot_of (at (seen c.args.client.now) root) 13 = c.in_ok-id.ensures.ok ∙ ap (λ i. slot_of (at (seen c.args.client.now) i) 13) (held_here (seen c.args.client.now) 0 root c.requires.rooted) in
    let t : Grown (at (seen c.args.client.now)) c.in_ok-id.id 64 c.in_ok-grow.field-0 [] c.grow.new.cells.keys = subst (λ ks. Grown (at (seen c.args.client.now)) c.in_ok-id.id 64 c.in_ok-grow.field-0 ks c.grow.new.cells.keys) c.new-cells.ensures.empty
    (moved (seen c.args.client.now) (seen c.read.new.self) (λ f. Grown f c.in_ok-id.id 64 c.in_ok-grow.field-0 c.new-cells.result.keys c.grow.new.cells.keys) c.in_ok-id.ensures.loads.graph c.in_ok-grow.ensures.grown) in
    map_found (seen c.args.client.now) c.in_ok-grow.field-0 c.grow.new.cells.keys (λ z. c.if-id-eq0.false (told ∙ z)) (subst (λ i. Grown (at (seen c.args.client.now)) i 64 c.in_ok-grow.field-0 [] c.grow.new.cells.keys) told t)

pub returns-clause-looks : goal.returns-clause-looks
returns-clause-looks g c = looks_then (looks_once c.in_ok-id.ensures.asks c.in_ok-id.ensures.loads.graph) c.in_ok-grow.ensures.looks

pub returns-in_err-grow-clause-refused : goal.returns-in_err-grow-clause-refused
returns-in_err-grow-clause-refused g c =
    let told : c.in_ok-id.id ≡ slot_of (at (seen c.args.client.now) root) 13 = c.in_ok-id.ensures.ok ∙ ap (λ i. slot_of (at (seen c.args.client.now) i) 13) (held_here (seen c.args.client.now) 0 root c.requires.rooted) in
    out c.from_residual-in_err-grow.result _ c.from_residual-in_err-grow.ensures.1
    (refuses_after (looks_once c.in_ok-id.ensures.asks c.in_ok-id.ensures.loads.graph)
    (λ n. map_missed (seen c.args.client.now) (λ z. c.if-id-eq0.false (told ∙ z)) (subst (λ i. NoTree (at (seen c.args.client.now)) i 64 []) told (subst (λ ks. NoTree (at (seen c.args.client.now)) c.in_ok-id.id 64 ks) c.new-cells.ensures.empty (moved (seen c.args.client.now) (seen c.read.new.self) (λ f. NoTree f c.in_ok-id.id 64 c.new-cells.result.keys) c.in_ok-id.ensures.loads.graph n))))
    c.in_err-grow.ensures.refused)

-- ---- the first object that breaks its sentence

pub returns-in_err-id-clause-first : goal.returns-in_err-id-clause-first
returns-in_err-id-clause-first g c = out c.from_residual.result _ c.from_residual.ensures.1 (λ d e. absurd (falls_names c.in_err-id.ensures.refused d e))

pub returns-in_err-grow-clause-first : goal.returns-in_err-grow-clause-first
returns-in_err-grow-clause-first g c =
    let told : c.in_ok-id.id ≡ slot_of (at (seen c.args.client.now) root) 13 = c.in_ok-id.ensures.ok ∙ ap (λ i. slot_of (at (seen c.args.client.now) i) 13) (held_here (seen c.args.client.now) 0 root c.requires.rooted) in
    out c.from_residual-in_err-grow.result _ c.from_residual-in_err-grow.ensures.1
    (λ d e. first_broken (at (seen c.args.client.now)) c.in_ok-id.id d told
    (subst (λ ks. IsFirst (at (seen c.args.client.now)) (IsMet ks) 64 c.in_ok-id.id d) c.new-cells.ensures.empty (moved (seen c.args.client.now) (seen c.read.new.self) (λ f. IsFirst f (IsMet c.new-cells.result.keys) 64 c.in_ok-id.id d) c.in_ok-id.ensures.loads.graph (c.in_err-grow.ensures.first d e))))

-- ---- how many calls

pub returns-then-id-eq0-clause-asks : goal.returns-then-id-eq0-clause-asks
returns-then-id-eq0-clause-asks g c = λ pairs m. (let few : 1 ≤ 1 + 178 * length pairs = omega arith in asks_within few c.in_ok-id.ensures.asks)

pub returns-clause-asks : goal.returns-clause-asks
returns-clause-asks g c = λ pairs m.
    let told : c.in_ok-id.id ≡ slot_of (at (seen c.args.client.now) root) 13 = c.in_ok-id.ensures.ok ∙ ap (λ i. slot_of (at (seen c.args.client.now) i) 13) (held_here (seen c.args.client.now) 0 root c.requires.rooted) in
    looks_map (at (seen c.args.client.now)) c.in_ok-id.id pairs m told c.if-id-eq0.false c.in_ok-id.ensures.asks
    (λ x e h. c.in_ok-grow.ensures.asks x e (moved_on (seen c.args.client.now) (seen c.read.new.self) (λ f. AreObjects f x) c.in_ok-id.ensures.loads.graph h))
