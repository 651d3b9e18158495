use Rattle.std.proofs.Common.{List, [], ◌∷◌, ◌++◌, ap, subst, ◌∙◌}
use Rattle.core_store.specs.declared.three.HeldFrame.{HeldFrame}
use Rattle.core_store.specs.Frames.{AreOnce}
use Rattle.latch_table.specs.Views.{frame_of}
use Rattle.shared_store.specs.Holding.{pairs_of, with_pages}
use Rattle.shared_store.proofs.Pairs.{dropped-pages, pairs-last, once-before}
use Rattle.shared_store.proofs.store.Store.drop_held.Goals as goal

pub drop_page-requires-clause-page : goal.drop_page-requires-clause-page
drop_page-requires-clause-page g c =
    let h : HeldFrame g.row.SLOTS = record { page = c.in-Some.page; frame = c.in-Some.frame } in
    ap (λ ps. frame_of ps c.in-Some.page) (c.pages.invariant.pages ∙ ap pairs_of c.in-Some.ensures.last) ∙ pairs-last c.take.new.self h

pub pages-preserved : goal.pages-preserved
pages-preserved g c =
    let h : HeldFrame g.row.SLOTS = record { page = c.in-Some.page; frame = c.in-Some.frame } in
    let view = c.drop_page.ensures.view in
    let once : AreOnce (c.take.new.self ++ h ∷ []) = subst (λ (hs : List (HeldFrame g.row.SLOTS)). AreOnce hs) c.in-Some.ensures.last c.pages.invariant.once in
    record {
      of = c.drop_page.ensures.of ∙ ap (λ z. z.table) c.self.view_is;
      pages = dropped-pages c.pages.hold.view c.drop_page.new.hold.view c.pages.held c.take.new.self h view c.pages.invariant.pages c.in-Some.ensures.last once;
      once = once-before c.take.new.self h once;
      idle = ap (λ v. v.hands.moving) view;
      rest = ap (λ v. with_pages v []) view ∙ c.pages.invariant.rest;
    }
