use Rattle.std.proofs.Common.{◌≤◌, refl, sym, arith, rules}
use Rattle.core_store.specs.declared.three.HeldFrame.{HeldFrame}
use Rattle.core_store.specs.Frames.{pages_held}
use Rattle.core_store.specs.JournalView.{cells_of}
use Rattle.core_store.specs.Work.{pages_of_work}
use Rattle.core_store.specs.Logged.{want_of}
use Rattle.core_store.proofs.WantLaws.{wanted-put}
use Rattle.framed_journal.proofs.HoldLaws.{slots-few, AreHeldOf-put, AreHeldOf-none, none-let_go, page_within, less_room, short-none, short-put, wanted-ready}
use Rattle.framed_journal.proofs.holding.hold.Goals as goal

pub pages-init : goal.pages-init
pages-init g c = record { held = AreHeldOf-none c.args.journal.now c.args.held.now c.requires.none; few = short-none c.args.held.now c.requires.none; needed = none-let_go (pages_of_work (cells_of c.args.journal.now) c.args.work) c.args.held.now c.requires.none }

pub bounds-frames-page : goal.bounds-frames-page
bounds-frames-page g c =
    let next = c.in-Page.ensures.next c.in-Page.page refl in
    page_within c.args.journal.now c.args.frames.now c.in-Page.page c.requires.frames next.there

pub put-requires : goal.put-requires
put-requires g c =
    let small : g.row.SLOTS ≤ 14 = slots-few g.row.SLOTS c.requires.frames.size.1 in
    let next = c.in-Page.ensures.next c.in-Page.page refl in
    (search rules, (search rules, (next.room, next.other)))

pub pages-smaller : goal.pages-smaller
pages-smaller g c =
    let next = c.in-Page.ensures.next c.in-Page.page refl in
    let h : HeldFrame g.row.SLOTS = record { page = c.in-Page.page; frame = c.index-frames-page.result } in
    less_room c.pages.held c.put.new.self h next.room c.put.ensures

pub pages-preserved : goal.pages-preserved
pages-preserved g c =
    let next = c.in-Page.ensures.next c.in-Page.page refl in
    let h : HeldFrame g.row.SLOTS = record { page = c.in-Page.page; frame = c.index-frames-page.result } in
    let needed = pages_of_work (cells_of c.args.journal.now) c.args.work in
    record {
      held = AreHeldOf-put c.args.journal.now c.args.frames.now c.pages.held c.put.new.self h c.index-frames-page.result c.requires.frames c.pages.invariant.held next.there c.index-frames-page.is c.put.ensures;
      few = short-put c.pages.held c.put.new.self h next.room c.put.ensures;
      needed = rw c.put.ensures (wanted-put needed c.pages.held c.in-Page.page (sym c.in-Page.ensures.exact) h refl);
    }

pub returns : goal.returns
returns g c =
    let needed = pages_of_work (cells_of c.args.journal.now) c.args.work in
    record { held = c.pages.invariant.held; few = c.pages.invariant.few; ready = wanted-ready c.wants_for.result (want_of needed (pages_held c.pages.held)) c.wants_for.ensures.exact c.in_default.not-Page c.pages.invariant.needed }

pub offset_bounds-frames-page : goal.offset_bounds-frames-page
offset_bounds-frames-page g c =
    let next = c.in-Page.ensures.next c.in-Page.page refl in
    let within = page_within c.args.journal.now c.args.frames.now c.in-Page.page c.requires.frames next.there in
    omega arith
