use Rattle.std.proofs.Common.{None, ◌≤◌, true, false, List, [], ◌∷◌, length, sym, ap, ◌∙◌, subst, arith, rules, length-append}
use Rattle.core_store.specs.declared.three.HeldFrame.{HeldFrame}
use Rattle.core_store.specs.Frames.{AreOnce, IsNext, is_held}
use Rattle.framed_journal.proofs.HoldLaws.{slots-few, AreHeldOf-none}
use Rattle.shared_store.specs.Acts.{Takes}
use Rattle.shared_store.specs.Holding.{pairs_of}
use Rattle.shared_store.proofs.Pairs.{has-with, claimed-more, with_none}
use Rattle.shared_store.proofs.LoneUpkeeps.{put-below, put-above, never-err, meets-none}
use Rattle.shared_store.proofs.store.Store.take_few.Goals as goal

pub pages-init : goal.pages-init
pages-init g c = record {
  of = c.requires.of;
  view = subst (λ hs. Takes c.args.hold.now.view c.args.hold.now.view (pairs_of hs) None) (sym c.requires.none.0) (with_none c.args.hold.now.view c.requires.none.1 c.requires.journal.idle);
  frames = AreHeldOf-none c.args.journal.now.journal c.args.held.now c.requires.none.0;
  once = subst AreOnce (sym c.requires.none.0) tt;
  count = ap (length {A = HeldFrame g.row.SLOTS}) c.requires.none.0;
  below = λ p low. absurd (omega (arith, low));
  above = λ p high. ap (λ (hs : List (HeldFrame g.row.SLOTS)). is_held hs p) c.requires.none.0;
}

pub claim_one-claimed-requires-after_bounds : goal.claim_one-claimed-requires-after_bounds
claim_one-claimed-requires-after_bounds g c κs within =
    let small : g.row.SLOTS ≤ 14 = slots-few g.row.SLOTS c.self.invariant.size in
    let i = c.pages.invariant in
    let has = has-with c.args.self.now.pages c.args.hold.now.view c.pages.hold.view (pairs_of c.pages.held) c.args.journal.now c.requires.journal i.view in
    let count = i.count in
    let few = c.requires.few in
    let ids = c.requires.journal.ids in
    let low = c.pages-test.true in
    let all = c.pages-count.ensures in
    let pages = ap (λ t. t.pages) c.self.view_is in
    let next : IsNext c.args.journal.now.journal.history.ids c.pages.held c.pages.page = record { there = omega (arith, all, low, ids, pages); other = i.above c.pages.page (omega arith); room = omega (arith, all, low, few, count, pages) } in
    (search rules, (search rules, (search rules, (search rules, (search rules, (i.of, (has, ((i.frames, ap (λ v. v.hands.pages) i.view.1), next))))))))

pub unreachable-requires : goal.unreachable-requires
unreachable-requires g c =
    let i = c.pages.invariant in
    absurd (never-err c.claim_one-claimed.result c.in_default.not-Ok c.claim_one-claimed.ensures.met
    (λ h m. meets-none c.args.hold.now.view c.pages.hold.view (pairs_of c.pages.held) h.seat c.requires.alone i.view m.1))

pub pages-preserved : goal.pages-preserved
pages-preserved g c =
    let i = c.pages.invariant in
    let e = c.in-Ok.ensures in
    let ok = e.ok in
    let h : HeldFrame g.row.SLOTS = record { page = c.pages.page; frame = ok.0 } in
    let more = length-append c.pages.held (h ∷ []) in
    let new = ap (length {A = HeldFrame g.row.SLOTS}) ok.1 in
    let count = i.count in
    record {
      of = c.claim_one-claimed.ensures.of;
      view = claimed-more c.args.hold.now.view c.pages.hold.view c.claim_one-claimed.new.hold.view c.pages.held c.claim_one-claimed.new.held c.pages.page ok.0 i.view ok.2 ok.1;
      frames = c.claim_one-claimed.ensures.held;
      once = c.claim_one-claimed.ensures.once i.once;
      count = omega (arith, more, new, count);
      below = put-below c.pages.held c.claim_one-claimed.new.held c.pages.page ok.0 ok.1 i.below;
      above = put-above c.pages.held c.claim_one-claimed.new.held c.pages.page ok.0 ok.1 i.above;
    }

pub returns : goal.returns
returns g c =
    let i = c.pages.invariant in
    let count = i.count in
    let all = c.pages-count.ensures in
    let end = c.pages-test.false in
    let ids = c.requires.journal.ids in
    let pages = ap (λ t. t.pages) c.self.view_is in
    record {
      of = i.of;
      taken = record {
        view = i.view;
        each = record {
          frames = i.frames;
          once = i.once;
          all = λ p there. i.below p (omega (arith, there, ids, all, end, pages));
          count = omega (arith, count, all, end, pages);
        };
      };
    }
