use Rattle.std.proofs.Common.{◌≤◌, [], ◌∷◌, length, Some, sym, subst, ap, arith, rules, length-append}
use Rattle.core_store.proofs.MapLaws.{if_err}
use Rattle.latch_table.specs.declared.hold.Held.{Held}
use Rattle.latch_table.specs.Holds.{IsAnother}
use Rattle.shared_store.specs.Acts.{Takes}
use Rattle.framed_journal.proofs.HoldLaws.{slots-few}
use Rattle.shared_store.specs.Holding.{pairs_of}
use Rattle.shared_store.specs.Upkeep.{held_from}
use Rattle.shared_store.proofs.Pairs.{has-with, claim-met}
use Rattle.shared_store.proofs.Rows.{claimed-next}
use Rattle.shared_store.proofs.store.Store.claim_all.Goals as goal

pub claim_next-requires-after_bounds : goal.claim_next-requires-after_bounds
claim_next-requires-after_bounds g c κs within =
    let small : g.row.SLOTS ≤ 14 = slots-few g.row.SLOTS c.self.invariant.size in
    let i = c.pages.invariant in
    let count = i.count in
    let room = i.room in
    let len = c.pages.frames.ok.0 in
    let low = c.pages-test.true in
    let all = c.requires.pages.0 in
    (search rules, (search rules, (search rules, (search rules, (i.of, (has-with c.args.self.now.pages c.args.hold.now.view c.pages.hold.view (pairs_of (held_from 0 c.pages.frames.items)) c.args.journal.now c.requires.journal i.held, (ap (λ v. v.hands.pages) i.held.1, (i.agree, (omega arith, omega arith)))))))))

pub pages-preserved : goal.pages-preserved
pages-preserved g c =
    let i = c.pages.invariant in
    let done = c.in_ok-claim_next.ensures in
    let ok = done.ok in
    let fs = c.pages.frames.items in
    let more = length-append fs (ok.0 ∷ []) in
    let new = ap length ok.1 in
    let count = i.count in
    let room = i.room in
    record {
      of = done.of;
      held = claimed-next c.args.hold.now.view c.pages.hold.view c.claim_next.new.hold.view fs c.claim_next.new.frames.items ok.0 i.held ok.2 ok.1;
      agree = done.agree;
      count = omega (arith, more, new, count);
      room = omega (arith, done.room, room);
    }

pub returns-in_err-claim_next-clause-met : goal.returns-in_err-claim_next-clause-met
returns-in_err-claim_next-clause-met g c =
    let m = c.in_err-claim_next.ensures.met in
    let v = c.args.hold.now.view in
    let fs = c.pages.frames.items in
    let P = λ (h : Held). IsAnother v h.seat × Takes v c.claim_next.new.hold.view (pairs_of (held_from 0 c.claim_next.new.frames.items)) (Some (h.word, h.seat)) in
    if_err c.from_residual.result _ P c.from_residual.ensures.1
    (λ y k. subst P (sym k) (claim-met v c.pages.hold.view c.claim_next.new.hold.view (held_from 0 fs) (held_from 0 c.claim_next.new.frames.items) c.in_err-claim_next.field-0.0.word c.in_err-claim_next.field-0.0.seat c.pages.invariant.held (ap (held_from 0) m.0) m.1 m.2))
