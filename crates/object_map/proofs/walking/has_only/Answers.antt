use Rattle.std.proofs.Common.{◌<◌, ◌≤◌, ◌+◌, sym, ◌∙◌, arith}
use Rattle.object_map.specs.Clients.{seen}
use Rattle.object_map.specs.Seen.{at, held_id}
use Rattle.object_map.proofs.LookLaws.{still_held, null_more, all_null, same_slot}
use Rattle.object_map.proofs.AskLaws.{asks_none, asks_then, asks_within, out}
use Rattle.object_map.proofs.WalkLaws.{scans_none, scans_then, falls_looked}
use Rattle.object_map.proofs.walking.has_only.Goals as goal

pub loop-slot-init : goal.loop-slot-init
loop-slot-init g c = record { null = λ k l m n. absurd (omega (arith, l)); scans = scans_none c.args.client.now; asks = asks_none c.args.client.now; few = omega arith }

pub is_spare-requires-clause-full : goal.is_spare-requires-clause-full
is_spare-requires-clause-full g c κs within = still_held (seen c.args.client.now) (seen c.loop-slot.client) c.args.r (c.loop-slot.invariant.scans.others c.args.r (λ z. absurd (omega (arith, z, c.requires.register)))) c.requires.full

pub returns-then-not-branch-clause-other : goal.returns-then-not-branch-clause-other
returns-then-not-branch-clause-other g c = λ e.
    let s = c.loop-slot.invariant.scans in
    let t = c.in_ok-is_spare.ensures.other c.if-not-branch.true in
    (c.loop-slot.slot, (t.0, t.1, (λ z. t.2 (same_slot (seen c.args.client.now) (seen c.loop-slot.client) c.args.r c.loop-slot.slot s.look.graph (s.others c.args.r (λ y. absurd (omega (arith, y, c.requires.register)))) ∙ z))))

pub returns-then-not-branch-clause-scans : goal.returns-then-not-branch-clause-scans
returns-then-not-branch-clause-scans g c = scans_then c.loop-slot.invariant.scans c.in_ok-is_spare.ensures.scans

pub loop-slot-preserved : goal.loop-slot-preserved
loop-slot-preserved g c =
    let s = c.loop-slot.invariant.scans in
    record {
      null = null_more (at (seen c.args.client.now) (held_id (seen c.args.client.now) c.args.r)) c.args.a c.args.b c.loop-slot.slot c.loop-slot.invariant.null
          (λ m n. sym (same_slot (seen c.args.client.now) (seen c.loop-slot.client) c.args.r c.loop-slot.slot s.look.graph (s.others c.args.r (λ y. absurd (omega (arith, y, c.requires.register))))) ∙ c.in_ok-is_spare.ensures.null c.if-not-branch.false m n);
      scans = scans_then s c.in_ok-is_spare.ensures.scans;
      asks = asks_then c.loop-slot.invariant.asks c.in_ok-is_spare.ensures.asks;
      few = (let l : c.loop-slot.slot < 14 = c.loop-slot-test.true in omega (arith, l));
    }

pub returns-clause-null : goal.returns-clause-null
returns-clause-null g c = λ e.
    let past : 14 ≤ c.loop-slot.slot = c.loop-slot-test.false in
    all_null (at (seen c.args.client.now) (held_id (seen c.args.client.now) c.args.r)) c.args.a c.args.b c.know_held.ensures (λ k l m n. c.loop-slot.invariant.null k (omega (arith, l, past)) m n)

pub returns-then-not-branch-clause-asks : goal.returns-then-not-branch-clause-asks
returns-then-not-branch-clause-asks g c =
    let l : c.loop-slot.slot < 14 = c.loop-slot-test.true in
    let few : c.loop-slot.slot + 1 ≤ 14 = omega (arith, l) in
    asks_within few (asks_then c.loop-slot.invariant.asks c.in_ok-is_spare.ensures.asks)

pub returns-clause-asks : goal.returns-clause-asks
returns-clause-asks g c = asks_within c.loop-slot.invariant.few c.loop-slot.invariant.asks

pub returns-clause-scans : goal.returns-clause-scans
returns-clause-scans g c = c.loop-slot.invariant.scans

pub returns-in_err-is_spare-clause-refused : goal.returns-in_err-is_spare-clause-refused
returns-in_err-is_spare-clause-refused g c = out c.from_residual.result _ c.from_residual.ensures.1 (falls_looked c.loop-slot.invariant.scans.look c.in_err-is_spare.ensures.refused)
