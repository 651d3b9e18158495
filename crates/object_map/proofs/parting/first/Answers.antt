use Rattle.object_map.specs.Clients.{seen}
use Rattle.object_map.proofs.AskLaws.{asks_none, three_more, three_end, out, falls_after}
use Rattle.std.proofs.Common.{◌≡◌, ◌<◌, ◌≤◌, refl, sym, subst, arith, []}
use Rattle.plain_model.specs.Machine.{nonzero}
use Rattle.object_map.specs.Seen.{Seen, at, held_id}
use Rattle.object_map.specs.Maps.{payload_of}
use Rattle.std.proofs.lemmas.List.{append-nil}
use Rattle.object_map.specs.Trees.{Tree, IsCritBit, IsBelow, pairs_of}
use Rattle.object_map.specs.Trees.Tree.{leaf, inner}
use Rattle.object_map.specs.Parting.{IsOnFirst}
use Rattle.object_map.proofs.PartLaws.{first_ends, first_steps}
use Rattle.object_map.proofs.parting.first.Goals as goal

looked : (v w : Seen) (P : Seen → Type 0) → w ≡ v → P v → P w
looked v w P e h = subst P (sym e) h

below_64 : (t : Tree) → IsCritBit t → IsBelow 64 t
below_64 (leaf i k c v) h = tt
below_64 (inner i b l r) h = h.0.number

pub down-init : goal.down-init
down-init g c =
    let t = c.requires.tree in
    record {
      way = record {
        tree = t.tree;
        within = t.tree;
        rest = [];
        start = t.here;
        stands = t.stands;
        inside = t.stands;
        first = sym (append-nil (pairs_of t.tree));
        here = t.here;
        below = below_64 t.tree t.stands.critical;
        rooted = refl;
        slots = refl;
        graph = refl;
      };
      few = omega arith;
      asks = asks_none c.args.client.now;
    }

pub returns-then-branch-ne0-clause-leaf : goal.returns-then-branch-ne0-clause-leaf
returns-then-branch-ne0-clause-leaf g c =
    let w = looked (seen c.down.client) (seen c.get_pay.new.self) (λ v. IsOnFirst c.args.r c.down.last (seen c.args.client.now) v) c.in_ok-payload.ensures.same c.down.invariant.way in
    let p = looked (seen c.down.client) (seen c.get_pay.new.self) (λ v. c.in_ok-payload.payload ≡ payload_of (at v (held_id v c.args.r))) c.in_ok-payload.ensures.same c.in_ok-payload.ensures.ok in
    first_ends c.args.r c.down.last c.in_ok-payload.payload c.in_ok-read.field-0 (seen c.args.client.now) (seen c.get_pay.new.self) (seen c.read.new.self) (nonzero c.in_ok-read.field-0) w c.requires.register p c.in_ok-read.ensures.ok c.if-branch-ne0.true c.in_ok-read.ensures.loads

pub down-preserved : goal.down-preserved
down-preserved g c =
    let w = looked (seen c.down.client) (seen c.get_pay.new.self) (λ v. IsOnFirst c.args.r c.down.last (seen c.args.client.now) v) c.in_ok-payload.ensures.same c.down.invariant.way in
    let p = looked (seen c.down.client) (seen c.get_pay.new.self) (λ v. c.in_ok-payload.payload ≡ payload_of (at v (held_id v c.args.r))) c.in_ok-payload.ensures.same c.in_ok-payload.ensures.ok in
    let both = first_steps c.args.r c.down.last c.in_ok-payload.payload c.in_ok-read.field-0 c.in_ok-read-2.field-0 (seen c.args.client.now) (seen c.get_pay.new.self) (seen c.read.new.self) (seen c.read-in-down.new.self) (nonzero c.in_ok-read.field-0) w c.requires.some c.requires.register p c.in_ok-read.ensures.ok c.if-branch-ne0.false c.in_ok-read.ensures.loads c.in_ok-read-2.ensures.ok c.in_ok-read-2.ensures.loads in
    let smaller : c.in_ok-payload.payload < c.down.last = both.1 in
    let few : c.down.last ≤ 64 = c.down.invariant.few in
    let fits : c.in_ok-payload.payload < 64 = omega (arith, smaller, few) in
    let fits2 : c.in_ok-payload.payload ≤ 64 = omega (arith, smaller, few) in
    record { way = both.0; few = fits2; asks = three_more c.down.invariant.asks c.in_ok-payload.ensures.asks c.in_ok-read.ensures.asks c.in_ok-read-2.ensures.asks smaller fits }

pub returns-then-branch-ne0-clause-asks : goal.returns-then-branch-ne0-clause-asks
returns-then-branch-ne0-clause-asks g c = three_end c.down.last c.down.invariant.asks c.in_ok-payload.ensures.asks c.in_ok-read.ensures.asks

-- ---- refusals

pub returns-in_err-payload-clause-refused : goal.returns-in_err-payload-clause-refused
returns-in_err-payload-clause-refused g c = out c.from_residual.result _ c.from_residual.ensures.1 (falls_after c.down.invariant.asks c.in_err-payload.ensures.refused)

pub returns-in_err-read-clause-refused : goal.returns-in_err-read-clause-refused
returns-in_err-read-clause-refused g c = out c.from_residual-in_err-read.result _ c.from_residual-in_err-read.ensures.1 (falls_after c.down.invariant.asks (falls_after c.in_ok-payload.ensures.asks c.in_err-read.ensures.refused))

pub returns-in_err-read-2-clause-refused : goal.returns-in_err-read-2-clause-refused
returns-in_err-read-2-clause-refused g c = out c.from_residual-in_err-read-2.result _ c.from_residual-in_err-read-2.ensures.1 (falls_after c.down.invariant.asks (falls_after c.in_ok-payload.ensures.asks (falls_after c.in_ok-read.ensures.asks c.in_err-read-2.ensures.refused)))
