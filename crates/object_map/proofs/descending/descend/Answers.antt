use Rattle.object_map.specs.Clients.{seen}
use Rattle.object_map.proofs.AskLaws.{asks_none, three_more, three_end, out, falls_after}
use Rattle.std.proofs.Common.{◌≡◌, ℕ, ◌<◌, ◌/◌, ◌^◌, refl, ap, ◌∙◌, sym, subst}
use Rattle.std.specs.Int.Bits.{bit_and}
use Rattle.plain_model.specs.Machine.{nonzero}
use Rattle.object_map.specs.Seen.{Seen, at, held_id}
use Rattle.object_map.specs.Maps.{payload_of}
use Rattle.object_map.specs.Ways.{IsOnWay}
use Rattle.object_map.proofs.WayLaws.{OnInner, on_inner, way_looked, inner_loaded, loaded_payload, inner_bit, inner_number, turned, at_leaf, begins}
use Rattle.object_map.proofs.descending.descend.Goals as goal

pub down-init : goal.down-init
down-init g c = record { way = begins c.args.key (seen c.args.client.now) c.requires.tree; asks = asks_none c.args.client.now }

-- what is known after the look at the payload
looked_payload : (payload : ℕ) (v w : Seen) → payload ≡ payload_of (at v (held_id v 1)) → w ≡ v → payload ≡ payload_of (at w (held_id w 1))
looked_payload payload v w e s = e ∙ ap (λ x. payload_of (at x (held_id x 1))) (sym s)

pub returns-then-branch-ne0-clause-leaf : goal.returns-then-branch-ne0-clause-leaf
returns-then-branch-ne0-clause-leaf g c =
    let w : IsOnWay c.args.key c.down.last (seen c.args.client.now) (seen c.get_pay.new.self) = way_looked c.args.key c.down.last (seen c.args.client.now) (seen c.down.client) (seen c.get_pay.new.self) c.in_ok-payload.ensures.same c.down.invariant.way in
    at_leaf c.args.key c.down.last c.in_ok-payload.payload (seen c.args.client.now) (seen c.get_pay.new.self) (seen c.read.new.self) (nonzero c.in_ok-read.field-0) w
    (λ z. c.if-branch-ne0.true (c.in_ok-read.ensures.ok ∙ z)) (looked_payload c.in_ok-payload.payload (seen c.down.client) (seen c.get_pay.new.self) c.in_ok-payload.ensures.ok c.in_ok-payload.ensures.same) c.in_ok-read.ensures.loads

pub overflow_shr-slot : goal.overflow_shr-slot
overflow_shr-slot g c =
    let w : IsOnWay c.args.key c.down.last (seen c.args.client.now) (seen c.get_pay.new.self) = way_looked c.args.key c.down.last (seen c.args.client.now) (seen c.down.client) (seen c.get_pay.new.self) c.in_ok-payload.ensures.same c.down.invariant.way in
    let o : OnInner c.args.key c.down.last (seen c.args.client.now) (seen c.get_pay.new.self) = on_inner c.args.key c.down.last (seen c.args.client.now) (seen c.get_pay.new.self) w (sym c.in_ok-read.ensures.ok ∙ c.if-branch-ne0.false) in
    let same = looked_payload c.in_ok-payload.payload (seen c.down.client) (seen c.get_pay.new.self) c.in_ok-payload.ensures.ok c.in_ok-payload.ensures.same ∙ inner_bit c.args.key c.down.last (seen c.args.client.now) (seen c.get_pay.new.self) o in
    subst (λ n. n < 64) (sym same) (inner_number c.args.key c.down.last (seen c.args.client.now) (seen c.get_pay.new.self) o)

pub down-smaller : goal.down-smaller
down-smaller g c =
    let w : IsOnWay c.args.key c.down.last (seen c.args.client.now) (seen c.get_pay.new.self) = way_looked c.args.key c.down.last (seen c.args.client.now) (seen c.down.client) (seen c.get_pay.new.self) c.in_ok-payload.ensures.same c.down.invariant.way in
    let o : OnInner c.args.key c.down.last (seen c.args.client.now) (seen c.get_pay.new.self) = on_inner c.args.key c.down.last (seen c.args.client.now) (seen c.get_pay.new.self) w (sym c.in_ok-read.ensures.ok ∙ c.if-branch-ne0.false) in
    let same = looked_payload c.in_ok-payload.payload (seen c.down.client) (seen c.get_pay.new.self) c.in_ok-payload.ensures.ok c.in_ok-payload.ensures.same ∙ inner_bit c.args.key c.down.last (seen c.args.client.now) (seen c.get_pay.new.self) o in
    subst (λ n. n < c.down.last) (sym same) o.below

pub down-preserved : goal.down-preserved
down-preserved g c =
    let w : IsOnWay c.args.key c.down.last (seen c.args.client.now) (seen c.get_pay.new.self) = way_looked c.args.key c.down.last (seen c.args.client.now) (seen c.down.client) (seen c.get_pay.new.self) c.in_ok-payload.ensures.same c.down.invariant.way in
    let o : OnInner c.args.key c.down.last (seen c.args.client.now) (seen c.get_pay.new.self) = on_inner c.args.key c.down.last (seen c.args.client.now) (seen c.get_pay.new.self) w (sym c.in_ok-read.ensures.ok ∙ c.if-branch-ne0.false) in
    let p : OnInner c.args.key c.down.last (seen c.args.client.now) (seen c.read.new.self) = inner_loaded c.args.key c.down.last (seen c.args.client.now) (seen c.get_pay.new.self) (seen c.read.new.self) (nonzero c.in_ok-read.field-0) o c.in_ok-read.ensures.loads in
    let same = looked_payload c.in_ok-payload.payload (seen c.down.client) (seen c.get_pay.new.self) c.in_ok-payload.ensures.ok c.in_ok-payload.ensures.same
    ∙ sym (loaded_payload (seen c.get_pay.new.self) (seen c.read.new.self) (nonzero c.in_ok-read.field-0) c.in_ok-read.ensures.loads) ∙ inner_bit c.args.key c.down.last (seen c.args.client.now) (seen c.read.new.self) p in
    let number = looked_payload c.in_ok-payload.payload (seen c.down.client) (seen c.get_pay.new.self) c.in_ok-payload.ensures.ok c.in_ok-payload.ensures.same ∙ inner_bit c.args.key c.down.last (seen c.args.client.now) (seen c.get_pay.new.self) o in
    record {
      way = turned c.args.key c.down.last c.in_ok-payload.payload (bit_and (c.args.key / 2 ^ c.in_ok-payload.payload) 1) (seen c.args.client.now) (seen c.read.new.self) (seen c.read-in-down.new.self) c.in_ok-read-2.field-0
          p same refl c.in_ok-read-2.ensures.ok c.in_ok-read-2.ensures.loads;
      asks = three_more c.down.invariant.asks c.in_ok-payload.ensures.asks c.in_ok-read.ensures.asks c.in_ok-read-2.ensures.asks (subst (λ n. n < c.down.last) (sym number) o.below) (subst (λ n. n < 64) (sym number) (inner_number c.args.key c.down.last (seen c.args.client.now) (seen c.get_pay.new.self) o));
    }

pub returns-then-branch-ne0-clause-asks : goal.returns-then-branch-ne0-clause-asks
returns-then-branch-ne0-clause-asks g c = three_end c.down.last c.down.invariant.asks c.in_ok-payload.ensures.asks c.in_ok-read.ensures.asks

-- ---- refusals

pub returns-in_err-payload-clause-refused : goal.returns-in_err-payload-clause-refused
returns-in_err-payload-clause-refused g c = out c.from_residual.result _ c.from_residual.ensures.1 (falls_after c.down.invariant.asks c.in_err-payload.ensures.refused)

pub returns-in_err-read-clause-refused : goal.returns-in_err-read-clause-refused
returns-in_err-read-clause-refused g c = out c.from_residual-in_err-read.result _ c.from_residual-in_err-read.ensures.1 (falls_after c.down.invariant.asks (falls_after c.in_ok-payload.ensures.asks c.in_err-read.ensures.refused))

pub returns-in_err-read-2-clause-refused : goal.returns-in_err-read-2-clause-refused
returns-in_err-read-2-clause-refused g c = out c.from_residual-in_err-read-2.result _ c.from_residual-in_err-read-2.ensures.1 (falls_after c.down.invariant.asks (falls_after c.in_ok-payload.ensures.asks (falls_after c.in_ok-read.ensures.asks c.in_err-read-2.ensures.refused)))
