use Rattle.std.proofs.Common.{◌≡◌, [], ◌∷◌, length, ap, ◌∙◌, arith, length-append}
use Rattle.shared_store.specs.Holding.{with_pages}
use Rattle.shared_store.proofs.Rows.{row-last, row-dropped}
use Rattle.shared_store.proofs.store.Store.drop_all.Goals as goal

pub drop_page-requires-clause-page : goal.drop_page-requires-clause-page
drop_page-requires-clause-page g c =
    let at : c.len.result ≡ length c.pop.new.self.items = c.len.ensures ∙ c.pop.new.self.ok.0 in
    row-last c.pages.hold.view.hands.pages c.pages.frames.items c.pop.new.self.items c.in-Some.frame c.len.result c.pages.invariant.pages c.in-Some.ensures.items at

pub pages-preserved : goal.pages-preserved
pages-preserved g c =
    let at : c.len.result ≡ length c.pop.new.self.items = c.len.ensures ∙ c.pop.new.self.ok.0 in
    let view = c.drop_page.ensures.view in
    let fewer = length-append c.pop.new.self.items (c.in-Some.frame ∷ []) in
    let before = ap length c.in-Some.ensures.items in
    let few = c.pages.invariant.few in
    record {
      of = c.drop_page.ensures.of ∙ ap (λ z. z.table) c.self.view_is;
      pages = ap (λ v. v.hands.pages) view ∙ row-dropped c.pages.hold.view.hands.pages c.pages.frames.items c.pop.new.self.items c.in-Some.frame c.len.result c.pages.invariant.pages c.in-Some.ensures.items at;
      idle = ap (λ v. v.hands.moving) view;
      rest = ap (λ v. with_pages v []) view ∙ c.pages.invariant.rest;
      few = omega (arith, fewer, before, few);
    }
