use Rattle.std.proofs.Common.{◌≡◌, ◌≤◌, ◌<◌, ◌/◌, ◌^◌, Some, refl, sym, ap, ◌∙◌, subst, arith}
use Rattle.std.specs.Int.Bits.{bit_and}
use Rattle.plain_model.specs.Graphs.{root}
use Rattle.object_map.specs.Clients.{seen}
use Rattle.object_map.specs.Maps.{slot_of}
use Rattle.object_map.specs.Seen.{at, held}
use Rattle.object_map.specs.Walking.{Comes}
use Rattle.object_map.proofs.AskLaws.{two_more, two_end, out}
use Rattle.object_map.proofs.LookLaws.{LedOn, led_number, led_on}
use Rattle.object_map.proofs.WayLaws.{held_here, held_some, nonzero_some}
use Rattle.object_map.proofs.WalkLaws.{looks_then, looks_once, looks_payload, falls_looked}
use Rattle.object_map.proofs.walking.reach.Goals as goal

pub down-init : goal.down-init
down-init g c =
    let told : c.in_ok-id.id ≡ slot_of (at (seen c.args.client.now) root) 13 = c.in_ok-id.ensures.ok ∙ ap (λ i. slot_of (at (seen c.args.client.now) i) 13) (held_here (seen c.args.client.now) 0 root c.requires.rooted) in
    let few : 64 ≤ 64 = omega arith in
    record {
      way = record { below = c.requires.way.0; numbers = c.requires.way.1.numbers; comes = subst (λ i. Comes (at (seen c.args.client.now)) c.args.guide 64 c.requires.way.0 c.requires.way.1.numbers i c.args.target) (sym told) c.requires.way.1.comes };
      here = c.in_ok-id.ensures.loads.here ∙ nonzero_some c.in_ok-id.id (λ z. c.requires.start (sym told ∙ z));
      looks = looks_once c.in_ok-id.ensures.asks c.in_ok-id.ensures.loads.graph;
      few = few;
      asks = c.in_ok-id.ensures.asks;
    }

pub returns-then-id-target-clause-here : goal.returns-then-id-target-clause-here
returns-then-id-target-clause-here g c = subst (λ i. held (seen c.down.client) 1 ≡ Some i) c.if-id-target.true c.down.invariant.here

pub returns-then-id-target-clause-asks : goal.returns-then-id-target-clause-asks
returns-then-id-target-clause-asks g c = two_end c.down.last c.down.invariant.asks

pub returns-then-id-target-clause-looks : goal.returns-then-id-target-clause-looks
returns-then-id-target-clause-looks g c = c.down.invariant.looks

pub get_pay-requires-clause-full : goal.get_pay-requires-clause-full
get_pay-requires-clause-full g c κs within = held_some (seen c.down.client) 1 c.down.id c.down.invariant.here

pub overflow_shr-slot : goal.overflow_shr-slot
overflow_shr-slot g c =
    let less : c.in_ok-payload.payload < c.down.last = led_number (seen c.args.client.now) (seen c.down.client) c.args.guide c.down.last c.down.id c.args.target c.in_ok-payload.payload c.down.invariant.way c.if-id-target.false c.down.invariant.looks.graph c.down.invariant.here c.in_ok-payload.ensures.ok in
    let few : c.down.last ≤ 64 = c.down.invariant.few in
    omega (arith, less, few)

pub down-smaller : goal.down-smaller
down-smaller g c = led_number (seen c.args.client.now) (seen c.down.client) c.args.guide c.down.last c.down.id c.args.target c.in_ok-payload.payload c.down.invariant.way c.if-id-target.false c.down.invariant.looks.graph c.down.invariant.here c.in_ok-payload.ensures.ok

pub down-preserved : goal.down-preserved
down-preserved g c =
    let s : LedOn (seen c.args.client.now) (seen c.read-in-down.new.self) c.args.guide c.down.last c.in_ok-payload.payload c.in_ok-id-2.id c.args.target = led_on (seen c.args.client.now) (seen c.down.client) (seen c.get_pay.new.self) (seen c.read-in-down.new.self) c.args.guide c.down.last c.down.id c.args.target c.in_ok-payload.payload (bit_and (c.args.guide / 2 ^ c.in_ok-payload.payload) 1) c.in_ok-id-2.id
    c.down.invariant.way c.if-id-target.false c.down.invariant.looks.graph c.down.invariant.here c.in_ok-payload.ensures.ok c.in_ok-payload.ensures.same refl c.in_ok-id-2.ensures.ok c.in_ok-id-2.ensures.loads in
    let less : c.in_ok-payload.payload < c.down.last = s.less in
    let few : c.down.last ≤ 64 = c.down.invariant.few in
    record {
      way = s.way;
      here = s.here;
      looks = looks_then c.down.invariant.looks (looks_then (looks_payload c.in_ok-payload.ensures.asks c.in_ok-payload.ensures.same) (looks_once c.in_ok-id-2.ensures.asks c.in_ok-id-2.ensures.loads.graph));
      few = omega (arith, less, few);
      asks = (let fits : c.in_ok-payload.payload < 64 = omega (arith, less, few) in two_more c.down.invariant.asks c.in_ok-payload.ensures.asks c.in_ok-id-2.ensures.asks less fits);
    }

pub returns-in_err-id-clause-refused : goal.returns-in_err-id-clause-refused
returns-in_err-id-clause-refused g c = out c.from_residual.result _ c.from_residual.ensures.1 c.in_err-id.ensures.refused

pub returns-in_err-payload-clause-refused : goal.returns-in_err-payload-clause-refused
returns-in_err-payload-clause-refused g c = out c.from_residual-in_err-payload.result _ c.from_residual-in_err-payload.ensures.1 (falls_looked c.down.invariant.looks c.in_err-payload.ensures.refused)

pub returns-in_err-id-2-clause-refused : goal.returns-in_err-id-2-clause-refused
returns-in_err-id-2-clause-refused g c = out c.from_residual-in_err-id-2.result _ c.from_residual-in_err-id-2.ensures.1 (falls_looked (looks_then c.down.invariant.looks (looks_payload c.in_ok-payload.ensures.asks c.in_ok-payload.ensures.same)) c.in_err-id-2.ensures.refused)
