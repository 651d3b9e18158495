use Rattle.object_map.specs.Clients.{seen}
use Rattle.object_map.proofs.AskLaws.{five_more, five_end, out, falls_after}
use Rattle.std.proofs.Common.{◌≡◌, ◌≢◌, ◌/◌, ◌^◌, ◌<◌, refl, sym, ◌∙◌, subst, ◌⊎◌, inl, inr}
use Rattle.std.specs.Int.Bits.{bit_and}
use Rattle.plain_model.specs.Machine.{nonzero}
use Rattle.object_map.specs.Seen.{Seen, at, held_id}
use Rattle.object_map.specs.Maps.{payload_of}
use Rattle.object_map.specs.Parting.{IsOnPart}
use Rattle.object_map.proofs.PartLaws.{part_begins, part_ends, inner_part, inner_payload, part_number, part_hangs, part_turns}
use Rattle.object_map.proofs.parting.part.Goals as goal
use Rattle.object_map.proofs.parting.part.Goals.{then-cell-ne0-via-then-cell-ne0, then-cell-ne0-via-else-cell-ne0+then-payload-bit}

pub down-init : goal.down-init
down-init g c = record { way = part_begins c.args.key c.args.found c.critical_bit-bit.result c.in_ok-read.field-0 (seen c.args.client.now) (seen c.read.new.self) c.requires.rooted c.requires.tree c.in_ok-read.ensures.ok c.in_ok-read.ensures.loads; asks = c.in_ok-read.ensures.asks }

-- what was known before a look at the payload is known after it
looked : (v w : Seen) (P : Seen → Type 0) → w ≡ v → P v → P w
looked v w P e h = subst P (sym e) h

pub returns-then-cell-ne0-clause-way : goal.returns-then-cell-ne0-clause-way
returns-then-cell-ne0-clause-way g c =
    let w = looked (seen c.down.client) (seen c.get_pay.new.self) (λ v. IsOnPart c.args.key c.args.found c.critical_bit-bit.result c.down.last c.down.register c.down.slot c.down.right (seen c.args.client.now) v) c.in_ok-payload.ensures.same c.down.invariant.way in
    let p = looked (seen c.down.client) (seen c.get_pay.new.self) (λ v. c.in_ok-payload.payload ≡ payload_of (at v (held_id v 1))) c.in_ok-payload.ensures.same c.in_ok-payload.ensures.ok in
    let d : (c.in_ok-cell.cell ≢ 0) ⊎ (c.in_ok-payload.payload < c.critical_bit-bit.result) =
    elim c.then-cell-ne0.branch [ then-cell-ne0-via-then-cell-ne0 x ↦ inl x.if-cell-ne0.true | then-cell-ne0-via-else-cell-ne0+then-payload-bit x ↦ inr x.if-payload-bit.true ] in
    part_ends c.args.key c.args.found c.critical_bit-bit.result c.down.last c.down.register c.down.slot c.in_ok-payload.payload c.in_ok-cell.cell c.down.right (seen c.args.client.now) (seen c.get_pay.new.self) (seen c.read-in-down.new.self) (nonzero c.in_ok-cell.cell) w p c.in_ok-cell.ensures.ok d c.in_ok-cell.ensures.loads

pub overflow_shr-side : goal.overflow_shr-side
overflow_shr-side g c =
    let w = looked (seen c.down.client) (seen c.get_pay.new.self) (λ v. IsOnPart c.args.key c.args.found c.critical_bit-bit.result c.down.last c.down.register c.down.slot c.down.right (seen c.args.client.now) v) c.in_ok-payload.ensures.same c.down.invariant.way in
    let p = looked (seen c.down.client) (seen c.get_pay.new.self) (λ v. c.in_ok-payload.payload ≡ payload_of (at v (held_id v 1))) c.in_ok-payload.ensures.same c.in_ok-payload.ensures.ok in
    let i = inner_part c.args.key c.args.found c.critical_bit-bit.result c.down.last c.down.register c.down.slot c.in_ok-cell.cell c.down.right (seen c.args.client.now) (seen c.get_pay.new.self) (seen c.read-in-down.new.self) (nonzero c.in_ok-cell.cell) w c.in_ok-cell.ensures.ok c.if-cell-ne0.false c.in_ok-cell.ensures.loads in
    subst (λ n. n < 64) (sym (inner_payload c.args.key c.args.found c.critical_bit-bit.result c.down.last c.down.register c.down.slot c.in_ok-payload.payload c.down.right (seen c.args.client.now) (seen c.get_pay.new.self) (seen c.read-in-down.new.self) (nonzero c.in_ok-cell.cell) i p c.in_ok-cell.ensures.loads))
    (part_number c.args.key c.args.found c.critical_bit-bit.result c.down.last c.down.register c.down.slot c.down.right (seen c.args.client.now) (seen c.read-in-down.new.self) i)

pub turn-requires-clause-named : goal.turn-requires-clause-named
turn-requires-clause-named g c κs within = λ z.
    let w = looked (seen c.down.client) (seen c.get_pay.new.self) (λ v. IsOnPart c.args.key c.args.found c.critical_bit-bit.result c.down.last c.down.register c.down.slot c.down.right (seen c.args.client.now) v) c.in_ok-payload.ensures.same c.down.invariant.way in
    let i = inner_part c.args.key c.args.found c.critical_bit-bit.result c.down.last c.down.register c.down.slot c.in_ok-cell.cell c.down.right (seen c.args.client.now) (seen c.get_pay.new.self) (seen c.read-in-down.new.self) (nonzero c.in_ok-cell.cell) w c.in_ok-cell.ensures.ok c.if-cell-ne0.false c.in_ok-cell.ensures.loads in
    i.named (sym (part_hangs c.args.key c.args.found c.critical_bit-bit.result c.down.last c.down.register c.down.slot c.down.right (seen c.args.client.now) (seen c.read-in-down.new.self) i) ∙ z)

pub down-smaller : goal.down-smaller
down-smaller g c =
    let w = looked (seen c.down.client) (seen c.get_pay.new.self) (λ v. IsOnPart c.args.key c.args.found c.critical_bit-bit.result c.down.last c.down.register c.down.slot c.down.right (seen c.args.client.now) v) c.in_ok-payload.ensures.same c.down.invariant.way in
    let p = looked (seen c.down.client) (seen c.get_pay.new.self) (λ v. c.in_ok-payload.payload ≡ payload_of (at v (held_id v 1))) c.in_ok-payload.ensures.same c.in_ok-payload.ensures.ok in
    let i = inner_part c.args.key c.args.found c.critical_bit-bit.result c.down.last c.down.register c.down.slot c.in_ok-cell.cell c.down.right (seen c.args.client.now) (seen c.get_pay.new.self) (seen c.read-in-down.new.self) (nonzero c.in_ok-cell.cell) w c.in_ok-cell.ensures.ok c.if-cell-ne0.false c.in_ok-cell.ensures.loads in
    subst (λ n. n < c.down.last) (sym (inner_payload c.args.key c.args.found c.critical_bit-bit.result c.down.last c.down.register c.down.slot c.in_ok-payload.payload c.down.right (seen c.args.client.now) (seen c.get_pay.new.self) (seen c.read-in-down.new.self) (nonzero c.in_ok-cell.cell) i p c.in_ok-cell.ensures.loads)) i.below

pub down-preserved : goal.down-preserved
down-preserved g c =
    let w = looked (seen c.down.client) (seen c.get_pay.new.self) (λ v. IsOnPart c.args.key c.args.found c.critical_bit-bit.result c.down.last c.down.register c.down.slot c.down.right (seen c.args.client.now) v) c.in_ok-payload.ensures.same c.down.invariant.way in
    let p = looked (seen c.down.client) (seen c.get_pay.new.self) (λ v. c.in_ok-payload.payload ≡ payload_of (at v (held_id v 1))) c.in_ok-payload.ensures.same c.in_ok-payload.ensures.ok in
    let i = inner_part c.args.key c.args.found c.critical_bit-bit.result c.down.last c.down.register c.down.slot c.in_ok-cell.cell c.down.right (seen c.args.client.now) (seen c.get_pay.new.self) (seen c.read-in-down.new.self) (nonzero c.in_ok-cell.cell) w c.in_ok-cell.ensures.ok c.if-cell-ne0.false c.in_ok-cell.ensures.loads in
    let number = inner_payload c.args.key c.args.found c.critical_bit-bit.result c.down.last c.down.register c.down.slot c.in_ok-payload.payload c.down.right (seen c.args.client.now) (seen c.get_pay.new.self) (seen c.read-in-down.new.self) (nonzero c.in_ok-cell.cell) i p c.in_ok-cell.ensures.loads in
    let way = part_turns c.args.key c.args.found c.critical_bit-bit.result c.down.last c.down.register c.down.slot c.in_ok-payload.payload (bit_and (c.args.key / 2 ^ c.in_ok-payload.payload) 1) c.down.right c.in_ok-right.right (seen c.args.client.now) (seen c.read-in-down.new.self) (seen c.turn.new.client)
    i c.critical_bit-bit.ensures (inner_payload c.args.key c.args.found c.critical_bit-bit.result c.down.last c.down.register c.down.slot c.in_ok-payload.payload c.down.right (seen c.args.client.now) (seen c.get_pay.new.self) (seen c.read-in-down.new.self) (nonzero c.in_ok-cell.cell) i p c.in_ok-cell.ensures.loads)
    c.if-payload-bit.false refl c.in_ok-right.ensures.turns in
    record {
      way = way;
      asks = five_more c.down.invariant.asks c.in_ok-payload.ensures.asks c.in_ok-cell.ensures.asks c.in_ok-right.ensures.asks (subst (λ n. n < c.down.last) (sym number) i.below)
          (subst (λ n. n < 64) (sym number) (part_number c.args.key c.args.found c.critical_bit-bit.result c.down.last c.down.register c.down.slot c.down.right (seen c.args.client.now) (seen c.read-in-down.new.self) i));
    }

pub returns-then-cell-ne0-clause-asks : goal.returns-then-cell-ne0-clause-asks
returns-then-cell-ne0-clause-asks g c = five_end c.down.last c.down.invariant.asks c.in_ok-payload.ensures.asks c.in_ok-cell.ensures.asks

-- ---- refusals

pub returns-in_err-read-clause-refused : goal.returns-in_err-read-clause-refused
returns-in_err-read-clause-refused g c = out c.from_residual.result _ c.from_residual.ensures.1 c.in_err-read.ensures.refused

pub returns-in_err-payload-clause-refused : goal.returns-in_err-payload-clause-refused
returns-in_err-payload-clause-refused g c = out c.from_residual-in_err-payload.result _ c.from_residual-in_err-payload.ensures.1 (falls_after c.down.invariant.asks c.in_err-payload.ensures.refused)

pub returns-in_err-cell-clause-refused : goal.returns-in_err-cell-clause-refused
returns-in_err-cell-clause-refused g c = out c.from_residual-in_err-cell.result _ c.from_residual-in_err-cell.ensures.1 (falls_after c.down.invariant.asks (falls_after c.in_ok-payload.ensures.asks c.in_err-cell.ensures.refused))

pub returns-in_err-right-clause-refused : goal.returns-in_err-right-clause-refused
returns-in_err-right-clause-refused g c = out c.from_residual-in_err-right.result _ c.from_residual-in_err-right.ensures.1 (falls_after c.down.invariant.asks (falls_after c.in_ok-payload.ensures.asks (falls_after c.in_ok-cell.ensures.asks c.in_err-right.ensures.refused)))
