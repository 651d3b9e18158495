use Rattle.object_map.specs.Clients.{seen, Asks}
use Rattle.object_map.proofs.AskLaws.{seen_same, asks_then, asks_within, five_more, five_end, out, falls_after}
use Rattle.std.proofs.Common.{◌≡◌, ◌≤◌, arith, [], ℕ, ◌/◌, ◌^◌, ◌<◌, refl, sym, ◌∙◌, subst, false}
use Rattle.std.specs.Int.Bits.{bit_and}
use Rattle.plain_model.specs.Machine.{nonzero}
use Rattle.object_map.specs.Seen.{Seen, at, held_id}
use Rattle.object_map.specs.Maps.{payload_of}
use Rattle.object_map.specs.Seeking.{IsSeeking}
use Rattle.object_map.proofs.WayLaws.{held_some}
use Rattle.object_map.proofs.SeekLaws.{seek_begins, seek_ends, InnerSeek, inner_seek, seek_number, seek_fits, HoldsInner, step_only, step_more, seek_turns}
use Rattle.object_map.proofs.removing.seek.Goals as goal
use Rattle.object_map.proofs.removing.seek.Goals.{then-only+in_ok-read-3, else-only+in_ok-read-4+in_ok-read-5}

one_two : 1 ≤ 2
one_two = omega arith

-- what was known before a look at the payload is known after it
looked : (v w : Seen) (P : Seen → Type 0) → w ≡ v → P v → P w
looked v w P e h = subst P (sym e) h

moved : (key number r s r' s' : ℕ) (old now new : Seen) → new ≡ now → r' ≡ r → s' ≡ s → HoldsInner key number r s old now → HoldsInner key number r' s' old new
moved key number r s r' s' old now new e f g h = subst (λ x. HoldsInner key number r' s' old x) (sym e) (subst (λ x. HoldsInner key number x s' old now) (sym f) (subst (λ x. HoldsInner key number r x old now) (sym g) h))

pub down-init : goal.down-init
down-init g c = record { way = seek_begins c.args.key c.in_ok-read.field-0 (seen c.args.client.now) (seen c.read.new.self) c.requires.rooted c.requires.tree c.in_ok-read.ensures.ok c.in_ok-read.ensures.loads; asks = c.in_ok-read.ensures.asks }

pub returns-then-branch-ne0-clause-leaf : goal.returns-then-branch-ne0-clause-leaf
returns-then-branch-ne0-clause-leaf g c =
    let w = looked (seen c.down.client) (seen c.get_pay.new.self) (λ v. IsSeeking c.args.key c.down.last c.down.side c.down.register c.down.slot c.down.only (seen c.args.client.now) v) c.in_ok-payload.ensures.same c.down.invariant.way in
    let p = looked (seen c.down.client) (seen c.get_pay.new.self) (λ v. c.in_ok-payload.payload ≡ payload_of (at v (held_id v 1))) c.in_ok-payload.ensures.same c.in_ok-payload.ensures.ok in
    seek_ends c.args.key c.down.last c.down.side c.down.register c.down.slot c.in_ok-payload.payload c.in_ok-read-2.field-0 c.down.only (seen c.args.client.now) (seen c.get_pay.new.self) (seen c.read-in-down.new.self) (nonzero c.in_ok-read-2.field-0) w p c.in_ok-read-2.ensures.ok c.if-branch-ne0.true c.in_ok-read-2.ensures.loads

pub overflow_shr-next : goal.overflow_shr-next
overflow_shr-next g c =
    let w = looked (seen c.down.client) (seen c.get_pay.new.self) (λ v. IsSeeking c.args.key c.down.last c.down.side c.down.register c.down.slot c.down.only (seen c.args.client.now) v) c.in_ok-payload.ensures.same c.down.invariant.way in
    let p = looked (seen c.down.client) (seen c.get_pay.new.self) (λ v. c.in_ok-payload.payload ≡ payload_of (at v (held_id v 1))) c.in_ok-payload.ensures.same c.in_ok-payload.ensures.ok in
    subst (λ n. n < 64) (sym (seek_number c.args.key c.down.last c.down.side c.down.register c.down.slot c.in_ok-payload.payload c.in_ok-read-2.field-0 c.down.only (seen c.args.client.now) (seen c.get_pay.new.self) (seen c.read-in-down.new.self) (nonzero c.in_ok-read-2.field-0) w c.in_ok-read-2.ensures.ok c.if-branch-ne0.false c.in_ok-read-2.ensures.loads p)) (seek_fits c.args.key c.down.last c.down.side c.down.register c.down.slot c.down.only (seen c.args.client.now) (seen c.read-in-down.new.self) (inner_seek c.args.key c.down.last c.down.side c.down.register c.down.slot c.in_ok-read-2.field-0 c.down.only (seen c.args.client.now) (seen c.get_pay.new.self) (seen c.read-in-down.new.self) (nonzero c.in_ok-read-2.field-0) w c.in_ok-read-2.ensures.ok c.if-branch-ne0.false c.in_ok-read-2.ensures.loads))

pub read-requires-in-down-2-clause-full : goal.read-requires-in-down-2-clause-full
read-requires-in-down-2-clause-full g c κs within =
    let w = looked (seen c.down.client) (seen c.get_pay.new.self) (λ v. IsSeeking c.args.key c.down.last c.down.side c.down.register c.down.slot c.down.only (seen c.args.client.now) v) c.in_ok-payload.ensures.same c.down.invariant.way in
    let i : InnerSeek c.args.key c.down.last c.down.side c.down.register c.down.slot c.down.only (seen c.args.client.now) (seen c.read-in-down.new.self) = inner_seek c.args.key c.down.last c.down.side c.down.register c.down.slot c.in_ok-read-2.field-0 c.down.only (seen c.args.client.now) (seen c.get_pay.new.self) (seen c.read-in-down.new.self) (nonzero c.in_ok-read-2.field-0) w c.in_ok-read-2.ensures.ok c.if-branch-ne0.false c.in_ok-read-2.ensures.loads in
    let h : HoldsInner c.args.key i.number c.if-only.register c.if-only.slot (seen c.args.client.now) (seen c.if-only.client) =
    elim c.if-only.branch [
      | then-only+in_ok-read-3 w ↦ moved c.args.key i.number c.down.register c.down.slot c.if-only.register c.if-only.slot (seen c.args.client.now) (seen w.read-then-only.new.self) (seen c.if-only.client) (seen_same w.client-is) w.register-is w.slot-is
          (step_only c.args.key c.down.last c.down.side c.down.register c.down.slot w.in_ok-read-3.field-0 c.down.only (seen c.args.client.now) (seen c.read-in-down.new.self) (seen w.read-then-only.new.self) i w.if-only.true w.in_ok-read-3.ensures.ok w.in_ok-read-3.ensures.loads)
      | else-only+in_ok-read-4+in_ok-read-5 w ↦ moved c.args.key i.number 3 c.down.side c.if-only.register c.if-only.slot (seen c.args.client.now) (seen w.read-else-only-2.new.self) (seen c.if-only.client) (seen_same w.client-is) w.register-is w.slot-is
          (step_more c.args.key c.down.last c.down.side c.down.register c.down.slot w.in_ok-read-4.field-0 w.in_ok-read-5.field-0 c.down.only (seen c.args.client.now) (seen c.read-in-down.new.self) (seen w.read-else-only.new.self) (seen w.read-else-only-2.new.self) i w.if-only.false w.in_ok-read-4.ensures.ok w.in_ok-read-4.ensures.loads w.in_ok-read-5.ensures.ok w.in_ok-read-5.ensures.loads)
    ] in
    held_some (seen c.if-only.client) 2 h.id h.here

pub down-smaller : goal.down-smaller
down-smaller g c =
    let w = looked (seen c.down.client) (seen c.get_pay.new.self) (λ v. IsSeeking c.args.key c.down.last c.down.side c.down.register c.down.slot c.down.only (seen c.args.client.now) v) c.in_ok-payload.ensures.same c.down.invariant.way in
    let p = looked (seen c.down.client) (seen c.get_pay.new.self) (λ v. c.in_ok-payload.payload ≡ payload_of (at v (held_id v 1))) c.in_ok-payload.ensures.same c.in_ok-payload.ensures.ok in
    subst (λ n. n < c.down.last) (sym (seek_number c.args.key c.down.last c.down.side c.down.register c.down.slot c.in_ok-payload.payload c.in_ok-read-2.field-0 c.down.only (seen c.args.client.now) (seen c.get_pay.new.self) (seen c.read-in-down.new.self) (nonzero c.in_ok-read-2.field-0) w c.in_ok-read-2.ensures.ok c.if-branch-ne0.false c.in_ok-read-2.ensures.loads p)) (inner_seek c.args.key c.down.last c.down.side c.down.register c.down.slot c.in_ok-read-2.field-0 c.down.only (seen c.args.client.now) (seen c.get_pay.new.self) (seen c.read-in-down.new.self) (nonzero c.in_ok-read-2.field-0) w c.in_ok-read-2.ensures.ok c.if-branch-ne0.false c.in_ok-read-2.ensures.loads).below

pub down-preserved : goal.down-preserved
down-preserved g c =
    let w = looked (seen c.down.client) (seen c.get_pay.new.self) (λ v. IsSeeking c.args.key c.down.last c.down.side c.down.register c.down.slot c.down.only (seen c.args.client.now) v) c.in_ok-payload.ensures.same c.down.invariant.way in
    let p = looked (seen c.down.client) (seen c.get_pay.new.self) (λ v. c.in_ok-payload.payload ≡ payload_of (at v (held_id v 1))) c.in_ok-payload.ensures.same c.in_ok-payload.ensures.ok in
    let i : InnerSeek c.args.key c.down.last c.down.side c.down.register c.down.slot c.down.only (seen c.args.client.now) (seen c.read-in-down.new.self) = inner_seek c.args.key c.down.last c.down.side c.down.register c.down.slot c.in_ok-read-2.field-0 c.down.only (seen c.args.client.now) (seen c.get_pay.new.self) (seen c.read-in-down.new.self) (nonzero c.in_ok-read-2.field-0) w c.in_ok-read-2.ensures.ok c.if-branch-ne0.false c.in_ok-read-2.ensures.loads in
    let h : HoldsInner c.args.key i.number c.if-only.register c.if-only.slot (seen c.args.client.now) (seen c.if-only.client) =
    elim c.if-only.branch [
      | then-only+in_ok-read-3 w ↦ moved c.args.key i.number c.down.register c.down.slot c.if-only.register c.if-only.slot (seen c.args.client.now) (seen w.read-then-only.new.self) (seen c.if-only.client) (seen_same w.client-is) w.register-is w.slot-is
          (step_only c.args.key c.down.last c.down.side c.down.register c.down.slot w.in_ok-read-3.field-0 c.down.only (seen c.args.client.now) (seen c.read-in-down.new.self) (seen w.read-then-only.new.self) i w.if-only.true w.in_ok-read-3.ensures.ok w.in_ok-read-3.ensures.loads)
      | else-only+in_ok-read-4+in_ok-read-5 w ↦ moved c.args.key i.number 3 c.down.side c.if-only.register c.if-only.slot (seen c.args.client.now) (seen w.read-else-only-2.new.self) (seen c.if-only.client) (seen_same w.client-is) w.register-is w.slot-is
          (step_more c.args.key c.down.last c.down.side c.down.register c.down.slot w.in_ok-read-4.field-0 w.in_ok-read-5.field-0 c.down.only (seen c.args.client.now) (seen c.read-in-down.new.self) (seen w.read-else-only.new.self) (seen w.read-else-only-2.new.self) i w.if-only.false w.in_ok-read-4.ensures.ok w.in_ok-read-4.ensures.loads w.in_ok-read-5.ensures.ok w.in_ok-read-5.ensures.loads)
    ] in
    let o : c.if-only.only ≡ false = elim c.if-only.branch [ then-only+in_ok-read-3 w ↦ w.only-is | else-only+in_ok-read-4+in_ok-read-5 w ↦ w.only-is ∙ w.if-only.false ] in
    let number = seek_number c.args.key c.down.last c.down.side c.down.register c.down.slot c.in_ok-payload.payload c.in_ok-read-2.field-0 c.down.only (seen c.args.client.now) (seen c.get_pay.new.self) (seen c.read-in-down.new.self) (nonzero c.in_ok-read-2.field-0) w c.in_ok-read-2.ensures.ok c.if-branch-ne0.false c.in_ok-read-2.ensures.loads p in
    let way = subst (λ b. IsSeeking c.args.key c.in_ok-payload.payload (bit_and (c.args.key / 2 ^ c.in_ok-payload.payload) 1) c.if-only.register c.if-only.slot b (seen c.args.client.now) (seen c.read-in-down-2.new.self)) (sym o)
    (seek_turns c.args.key i.number c.in_ok-payload.payload (bit_and (c.args.key / 2 ^ c.in_ok-payload.payload) 1) c.if-only.register c.if-only.slot c.in_ok-read-6.field-0 (seen c.args.client.now) (seen c.if-only.client) (seen c.read-in-down-2.new.self) h (seek_number c.args.key c.down.last c.down.side c.down.register c.down.slot c.in_ok-payload.payload c.in_ok-read-2.field-0 c.down.only (seen c.args.client.now) (seen c.get_pay.new.self) (seen c.read-in-down.new.self) (nonzero c.in_ok-read-2.field-0) w c.in_ok-read-2.ensures.ok c.if-branch-ne0.false c.in_ok-read-2.ensures.loads p) refl c.in_ok-read-6.ensures.ok c.in_ok-read-6.ensures.loads) in
    let more : Asks 2 [] c.read-in-down.new.self c.if-only.client = elim c.if-only.branch [
      | then-only+in_ok-read-3 w ↦ subst (λ v. Asks 2 [] c.read-in-down.new.self v) (sym w.client-is) (asks_within one_two w.in_ok-read-3.ensures.asks)
      | else-only+in_ok-read-4+in_ok-read-5 w ↦ subst (λ v. Asks 2 [] c.read-in-down.new.self v) (sym w.client-is) (asks_then w.in_ok-read-4.ensures.asks w.in_ok-read-5.ensures.asks)
    ] in
    record { way = way; asks = five_more c.down.invariant.asks c.in_ok-payload.ensures.asks c.in_ok-read-2.ensures.asks (asks_then more c.in_ok-read-6.ensures.asks) (subst (λ n. n < c.down.last) (sym number) i.below) (subst (λ n. n < 64) (sym number) (seek_fits c.args.key c.down.last c.down.side c.down.register c.down.slot c.down.only (seen c.args.client.now) (seen c.read-in-down.new.self) (inner_seek c.args.key c.down.last c.down.side c.down.register c.down.slot c.in_ok-read-2.field-0 c.down.only (seen c.args.client.now) (seen c.get_pay.new.self) (seen c.read-in-down.new.self) (nonzero c.in_ok-read-2.field-0) w c.in_ok-read-2.ensures.ok c.if-branch-ne0.false c.in_ok-read-2.ensures.loads))) }

pub returns-then-branch-ne0-clause-asks : goal.returns-then-branch-ne0-clause-asks
returns-then-branch-ne0-clause-asks g c = five_end c.down.last c.down.invariant.asks c.in_ok-payload.ensures.asks c.in_ok-read-2.ensures.asks

-- ---- refusals

pub returns-in_err-read-clause-refused : goal.returns-in_err-read-clause-refused
returns-in_err-read-clause-refused g c = out c.from_residual.result _ c.from_residual.ensures.1 c.in_err-read.ensures.refused

pub returns-in_err-payload-clause-refused : goal.returns-in_err-payload-clause-refused
returns-in_err-payload-clause-refused g c = out c.from_residual-in_err-payload.result _ c.from_residual-in_err-payload.ensures.1 (falls_after c.down.invariant.asks c.in_err-payload.ensures.refused)

pub returns-in_err-read-2-clause-refused : goal.returns-in_err-read-2-clause-refused
returns-in_err-read-2-clause-refused g c = out c.from_residual-in_err-read-2.result _ c.from_residual-in_err-read-2.ensures.1 (falls_after c.down.invariant.asks (falls_after c.in_ok-payload.ensures.asks c.in_err-read-2.ensures.refused))

pub returns-in_err-read-3-clause-refused : goal.returns-in_err-read-3-clause-refused
returns-in_err-read-3-clause-refused g c = out c.from_residual-in_err-read-3.result _ c.from_residual-in_err-read-3.ensures.1 (falls_after c.down.invariant.asks (falls_after c.in_ok-payload.ensures.asks (falls_after c.in_ok-read-2.ensures.asks c.in_err-read-3.ensures.refused)))

pub returns-in_err-read-4-clause-refused : goal.returns-in_err-read-4-clause-refused
returns-in_err-read-4-clause-refused g c = out c.from_residual-in_err-read-4.result _ c.from_residual-in_err-read-4.ensures.1 (falls_after c.down.invariant.asks (falls_after c.in_ok-payload.ensures.asks (falls_after c.in_ok-read-2.ensures.asks c.in_err-read-4.ensures.refused)))

pub returns-in_err-read-5-clause-refused : goal.returns-in_err-read-5-clause-refused
returns-in_err-read-5-clause-refused g c = out c.from_residual-in_err-read-5.result _ c.from_residual-in_err-read-5.ensures.1 (falls_after c.down.invariant.asks (falls_after c.in_ok-payload.ensures.asks (falls_after c.in_ok-read-2.ensures.asks (falls_after c.in_ok-read-4.ensures.asks c.in_err-read-5.ensures.refused))))

pub returns-in_err-read-6-clause-refused : goal.returns-in_err-read-6-clause-refused
returns-in_err-read-6-clause-refused g c = out c.from_residual-in_err-read-6.result _ c.from_residual-in_err-read-6.ensures.1 (falls_after c.down.invariant.asks (falls_after c.in_ok-payload.ensures.asks (falls_after c.in_ok-read-2.ensures.asks (elim c.if-only.branch [
  | then-only+in_ok-read-3 w ↦ falls_after (subst (λ v. Asks 1 [] c.read-in-down.new.self v) (sym w.client-is) w.in_ok-read-3.ensures.asks) c.in_err-read-6.ensures.refused
  | else-only+in_ok-read-4+in_ok-read-5 w ↦ falls_after (subst (λ v. Asks 2 [] c.read-in-down.new.self v) (sym w.client-is) (asks_then w.in_ok-read-4.ensures.asks w.in_ok-read-5.ensures.asks)) c.in_err-read-6.ensures.refused
]))))
