use Rattle.std.proofs.Common.{◌≤◌, ◌≢◌, refl, sym, subst, arith, rules}
use Rattle.core_store.specs.declared.want.Want.TheVariants.{LetGo}
use Rattle.core_store.specs.Frames.{pages_held}
use Rattle.core_store.specs.Logged.{want_of}
use Rattle.core_store.specs.JournalView.{JournalView}
use Rattle.framed_journal.specs.Holding.{AreHeldOf}
use Rattle.core_store.specs.declared.three.HeldFrame.{HeldFrame}
use Rattle.core_store.specs.Limited.{pages_for_collector}
use Rattle.core_store.proofs.WantLaws.{wanted-put}
use Rattle.framed_journal.proofs.HoldLaws.{slots-few, AreHeldOf-put, AreHeldOf-none, none-let_go, page_within, short-none, short-put}
use Rattle.framed_journal.proofs.LookLaws.{looked-held, looked-frames, OnlyLooks-none, OnlyLooks-more, SameLog-more, smaller-put, smaller-let_go}
use Rattle.framed_journal.proofs.holding.hold_for_looks.Goals as goal

pub pages-init : goal.pages-init
pages-init g c = record {
  held = subst (λ (j : JournalView). AreHeldOf j c.hold_first.new.held) c.journal.ensures.journal c.hold_first.ensures.held;
  few = c.hold_first.ensures.few;
  needed = subst (λ (j : JournalView). want_of (pages_for_collector j) (pages_held c.hold_first.new.held) ≢ LetGo) c.journal.ensures.journal c.hold_first.ensures.needed;
  looks = OnlyLooks-none g.row.SLOTS c.args.logged.now.journal;
  same = refl;
}

pub bounds-frames-page : goal.bounds-frames-page
bounds-frames-page g c =
    let i = c.args.logged.now.journal in
    let k = c.wants_collect_step.new.self.journal in
    let next = c.in-Page.ensures.next c.in-Page.page refl in
    let looks = OnlyLooks-more g.row.SLOTS i c.pages.logged.journal k c.pages.invariant.looks c.in-Page.ensures.looks in
    page_within k c.args.frames.now c.in-Page.page (looked-frames i k c.args.frames.now looks.same c.requires.frames) next.there

pub put-requires : goal.put-requires
put-requires g c =
    let small : g.row.SLOTS ≤ 14 = slots-few g.row.SLOTS c.requires.frames.size.1 in
    let next = c.in-Page.ensures.next c.in-Page.page refl in
    (search rules, (search rules, (next.room, next.other)))

pub pages-smaller-in-Page : goal.pages-smaller-in-Page
pages-smaller-in-Page g c =
    let next = c.in-Page.ensures.next c.in-Page.page refl in
    let h : HeldFrame g.row.SLOTS = record { page = c.in-Page.page; frame = c.index-frames-page.result } in
    smaller-put c.pages.logged.journal c.wants_collect_step.new.self.journal c.pages.held c.put.new.self h c.in-Page.ensures.left next.room c.put.ensures

pub pages-preserved-in-Page : goal.pages-preserved-in-Page
pages-preserved-in-Page g c =
    let i = c.args.logged.now.journal in
    let j = c.pages.logged.journal in
    let k = c.wants_collect_step.new.self.journal in
    let next = c.in-Page.ensures.next c.in-Page.page refl in
    let h : HeldFrame g.row.SLOTS = record { page = c.in-Page.page; frame = c.index-frames-page.result } in
    let looks = OnlyLooks-more g.row.SLOTS i j k c.pages.invariant.looks c.in-Page.ensures.looks in
    let frames = looked-frames i k c.args.frames.now looks.same c.requires.frames in
    record {
      held = AreHeldOf-put k c.args.frames.now c.pages.held c.put.new.self h c.index-frames-page.result frames (looked-held j k c.pages.held c.in-Page.ensures.looks.same c.pages.invariant.held) next.there c.index-frames-page.is c.put.ensures;
      few = short-put c.pages.held c.put.new.self h next.room c.put.ensures;
      needed = rw c.put.ensures (wanted-put (pages_for_collector k) c.pages.held c.in-Page.page (sym c.in-Page.ensures.exact) h refl);
      looks = looks;
      same = SameLog-more c.args.logged.now c.pages.logged c.wants_collect_step.new.self c.pages.invariant.same c.in-Page.ensures.same;
    }

pub pages-smaller : goal.pages-smaller
pages-smaller g c = smaller-let_go c.pages.logged.journal c.wants_collect_step.new.self.journal c.pages.held c.clear.new.self c.in-LetGo.ensures.left c.in-LetGo.ensures.looks.same c.pages.invariant.needed c.in-LetGo.ensures.exact

pub pages-preserved : goal.pages-preserved
pages-preserved g c =
    let i = c.args.logged.now.journal in
    let j = c.pages.logged.journal in
    let k = c.wants_collect_step.new.self.journal in
    record {
      held = AreHeldOf-none k c.clear.new.self c.clear.ensures;
      few = short-none c.clear.new.self c.clear.ensures;
      needed = none-let_go (pages_for_collector k) c.clear.new.self c.clear.ensures;
      looks = OnlyLooks-more g.row.SLOTS i j k c.pages.invariant.looks c.in-LetGo.ensures.looks;
      same = SameLog-more c.args.logged.now c.pages.logged c.wants_collect_step.new.self c.pages.invariant.same c.in-LetGo.ensures.same;
    }

pub returns-in-Ready-clause-held : goal.returns-in-Ready-clause-held
returns-in-Ready-clause-held g c = looked-held c.pages.logged.journal c.wants_collect_step.new.self.journal c.pages.held c.in-Ready.ensures.looks.same c.pages.invariant.held

pub returns-in-Ready-clause-looks : goal.returns-in-Ready-clause-looks
returns-in-Ready-clause-looks g c = OnlyLooks-more g.row.SLOTS c.args.logged.now.journal c.pages.logged.journal c.wants_collect_step.new.self.journal c.pages.invariant.looks c.in-Ready.ensures.looks

pub returns-in-Ready-clause-same : goal.returns-in-Ready-clause-same
returns-in-Ready-clause-same g c = SameLog-more c.args.logged.now c.pages.logged c.wants_collect_step.new.self c.pages.invariant.same c.in-Ready.ensures.same

pub offset_bounds-frames-page : goal.offset_bounds-frames-page
offset_bounds-frames-page g c =
    let i = c.args.logged.now.journal in
    let k = c.wants_collect_step.new.self.journal in
    let next = c.in-Page.ensures.next c.in-Page.page refl in
    let looks = OnlyLooks-more g.row.SLOTS i c.pages.logged.journal k c.pages.invariant.looks c.in-Page.ensures.looks in
    let within = page_within k c.args.frames.now c.in-Page.page (looked-frames i k c.args.frames.now looks.same c.requires.frames) next.there in
    omega arith
