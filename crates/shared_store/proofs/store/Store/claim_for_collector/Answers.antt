use Rattle.std.proofs.Common.{None, Some, ◌≤◌, [], refl, sym, ap, subst, ◌∙◌, rules}
use Rattle.core_store.specs.declared.three.HeldFrame.{HeldFrame}
use Rattle.core_store.specs.Frames.{AreOnce}
use Rattle.core_store.specs.Limited.{pages_for_collector}
use Rattle.core_store.proofs.MapLaws.{if_err}
use Rattle.latch_table.specs.declared.hold.Held.{Held}
use Rattle.latch_table.specs.Holds.{IsAnother}
use Rattle.core_store.proofs.WantLaws.{wanted-put}
use Rattle.framed_journal.proofs.HoldLaws.{slots-few, AreHeldOf-none, none-let_go}
use Rattle.framed_journal.proofs.LookLaws.{looked-held, OnlyLooks-none, OnlyLooks-more, SameLog-more, smaller-put, smaller-let_go}
use Rattle.latch_table.specs.Views.{with_claims}
use Rattle.shared_store.specs.Acts.{Takes}
use Rattle.shared_store.specs.Holding.{pairs_of, with_pages}
use Rattle.shared_store.proofs.Pairs.{has-with, with_none, claim-met, claimed-more}
use Rattle.shared_store.proofs.Looks.{looked-journal}
use Rattle.shared_store.proofs.store.Store.claim_for_collector.Goals as goal

pub pages-init : goal.pages-init
pages-init g c = record {
  of = c.requires.of;
  once = subst AreOnce (sym c.requires.none.0) tt;
  held = AreHeldOf-none c.args.journal.now.journal c.args.held.now c.requires.none.0;
  pages = subst (λ hs. Takes c.args.hold.now.view c.args.hold.now.view (pairs_of hs) None) (sym c.requires.none.0) (with_none c.args.hold.now.view c.requires.none.1 c.requires.journal.idle);
  needed = none-let_go (pages_for_collector c.args.journal.now.journal) c.args.held.now c.requires.none.0;
  looks = OnlyLooks-none g.row.SLOTS c.args.journal.now.journal;
  same = refl;
}

pub claim_one-requires-after_bounds : goal.claim_one-requires-after_bounds
claim_one-requires-after_bounds g c κs within =
    let small : g.row.SLOTS ≤ 14 = slots-few g.row.SLOTS c.self.invariant.size in
    let i = c.args.journal.now in
    let j = c.pages.journal in
    let k = c.wants_collect_step.new.self in
    let inv = c.pages.invariant in
    let looks = OnlyLooks-more g.row.SLOTS i.journal j.journal k.journal inv.looks c.in-Page.ensures.looks in
    let same = SameLog-more i j k inv.same c.in-Page.ensures.same in
    let has = looked-journal g.row.SLOTS i k looks same c.args.self.now.pages c.args.hold.now.view c.requires.journal in
    let held = looked-held j.journal k.journal c.pages.held c.in-Page.ensures.looks.same inv.held in
    (search rules, (search rules, (search rules, (search rules, (search rules, (inv.of, (has-with c.args.self.now.pages c.args.hold.now.view c.pages.hold.view (pairs_of c.pages.held) k has inv.pages, ((held, ap (λ v. v.hands.pages) inv.pages.1), c.in-Page.ensures.next c.in-Page.page refl))))))))

pub pages-smaller-in-Continue-1 : goal.pages-smaller-in-Continue-1
pages-smaller-in-Continue-1 g c =
    let next = c.in-Page.ensures.next c.in-Page.page refl in
    let ok = c.in_ok-claim_one-in-Page.ensures.ok in
    let h : HeldFrame g.row.SLOTS = record { page = c.in-Page.page; frame = ok.0 } in
    smaller-put c.pages.journal.journal c.wants_collect_step.new.self.journal c.pages.held c.claim_one.new.held h c.in-Page.ensures.left next.room ok.1

pub pages-preserved-in-Continue-1 : goal.pages-preserved-in-Continue-1
pages-preserved-in-Continue-1 g c =
    let i = c.args.journal.now in
    let j = c.pages.journal in
    let k = c.wants_collect_step.new.self in
    let inv = c.pages.invariant in
    let ok = c.in_ok-claim_one-in-Page.ensures.ok in
    let h : HeldFrame g.row.SLOTS = record { page = c.in-Page.page; frame = ok.0 } in
    record {
      of = c.in_ok-claim_one-in-Page.ensures.of;
      once = c.in_ok-claim_one-in-Page.ensures.once inv.once;
      held = c.in_ok-claim_one-in-Page.ensures.held;
      pages = claimed-more c.args.hold.now.view c.pages.hold.view c.claim_one.new.hold.view c.pages.held c.claim_one.new.held c.in-Page.page ok.0 inv.pages ok.2 ok.1;
      needed = rw ok.1 (wanted-put (pages_for_collector k.journal) c.pages.held c.in-Page.page (sym c.in-Page.ensures.exact) h refl);
      looks = OnlyLooks-more g.row.SLOTS i.journal j.journal k.journal inv.looks c.in-Page.ensures.looks;
      same = SameLog-more i j k inv.same c.in-Page.ensures.same;
    }

pub returns-in_err-claim_one-in-Page-clause-looks : goal.returns-in_err-claim_one-in-Page-clause-looks
returns-in_err-claim_one-in-Page-clause-looks g c = OnlyLooks-more g.row.SLOTS c.args.journal.now.journal c.pages.journal.journal c.wants_collect_step.new.self.journal c.pages.invariant.looks c.in-Page.ensures.looks

pub pages-smaller : goal.pages-smaller
pages-smaller g c = smaller-let_go c.pages.journal.journal c.wants_collect_step.new.self.journal c.pages.held c.drop_held.new.held c.in-LetGo.ensures.left c.in-LetGo.ensures.looks.same c.pages.invariant.needed c.in-LetGo.ensures.exact

pub pages-preserved : goal.pages-preserved
pages-preserved g c =
    let i = c.args.journal.now in
    let j = c.pages.journal in
    let k = c.wants_collect_step.new.self in
    let inv = c.pages.invariant in
    record {
      of = c.drop_held.ensures.of;
      once = subst AreOnce (sym c.drop_held.ensures.none) tt;
      held = AreHeldOf-none k.journal c.drop_held.new.held c.drop_held.ensures.none;
      pages = (inv.pages.0, c.drop_held.ensures.view ∙ (ap (λ v. with_pages v []) inv.pages.1 ∙ ap (λ hs. with_pages (with_claims c.args.hold.now.view inv.pages.0) (pairs_of hs)) (sym c.drop_held.ensures.none)));
      needed = none-let_go (pages_for_collector k.journal) c.drop_held.new.held c.drop_held.ensures.none;
      looks = OnlyLooks-more g.row.SLOTS i.journal j.journal k.journal inv.looks c.in-LetGo.ensures.looks;
      same = SameLog-more i j k inv.same c.in-LetGo.ensures.same;
    }

pub returns-in-Ready-clause-held : goal.returns-in-Ready-clause-held
returns-in-Ready-clause-held g c = looked-held c.pages.journal.journal c.wants_collect_step.new.self.journal c.pages.held c.in-Ready.ensures.looks.same c.pages.invariant.held

pub returns-in-Ready-clause-looks : goal.returns-in-Ready-clause-looks
returns-in-Ready-clause-looks g c = OnlyLooks-more g.row.SLOTS c.args.journal.now.journal c.pages.journal.journal c.wants_collect_step.new.self.journal c.pages.invariant.looks c.in-Ready.ensures.looks

pub returns-in_err-claim_one-in-Page-clause-met : goal.returns-in_err-claim_one-in-Page-clause-met
returns-in_err-claim_one-in-Page-clause-met g c =
    let m = c.in_err-claim_one-in-Page.ensures.met in
    let P = λ (h : Held). IsAnother c.args.hold.now.view h.seat × Takes c.args.hold.now.view c.claim_one.new.hold.view (pairs_of c.claim_one.new.held) (Some (h.word, h.seat)) in
    if_err c.from_residual.result _ P c.from_residual.ensures.1
    (λ y k. subst P (sym k) (claim-met c.args.hold.now.view c.pages.hold.view c.claim_one.new.hold.view c.pages.held c.claim_one.new.held c.in_err-claim_one-in-Page.field-0.0.word c.in_err-claim_one-in-Page.field-0.0.seat c.pages.invariant.pages m.0 m.1 m.2))
