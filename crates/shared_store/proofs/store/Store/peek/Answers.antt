use Rattle.std.proofs.Common.{◌≡◌, ℕ, ◌≤◌, List, sym, ap, subst, ◌∙◌, arith, rules}
use Rattle.cell_page.specs.declared.cell.Cell.{Cell}
use Rattle.cell_page.specs.Format.{HasId, page_of_id}
use Rattle.core_store.specs.declared.frame.Frame.{Frame}
use Rattle.core_store.specs.JournalView.{cells_after_notes}
use Rattle.framed_journal.proofs.HoldLaws.{slots-few}
use Rattle.shared_store.specs.Chronicles.Pages.{page_in}
use Rattle.shared_store.proofs.Chronicles.PageCells.{has-id}
use Rattle.shared_store.proofs.store.Store.peek.Goals as goal

pub page_of-page-requires-clause-few : goal.page_of-page-requires-clause-few
page_of-page-requires-clause-few g c =
    let few = c.self.invariant.few in
    let pages = ap (λ z. z.pages) c.self.view_is in
    let id = c.requires.id.1 in
    omega arith

-- the page is one that the history gives, so each of its ids has its cell there
pub cell-cell-requires : goal.cell-cell-requires
cell-cell-requires g c =
    let small : g.row.SLOTS ≤ 14 = slots-few g.row.SLOTS c.self.invariant.size in
    let shown = c.in-Ok.ensures.shown in
    let cells = cells_after_notes g.row.SLOTS shown.0.opening shown.1 in
    let page : c.in-Ok.frame.page ≡ page_in g.row.SLOTS cells (page_of_id c.args.id) = ap (λ (f : Frame g.row.SLOTS). f.page) shown.3 ∙ ap (λ (n : ℕ). page_in g.row.SLOTS cells n) c.page_of-page.ensures.page in
    (search rules, (search rules, subst (λ (p : List (Cell g.row.SLOTS)). HasId p c.args.id) (sym page) (has-id g.row.SLOTS cells c.args.id c.requires.id.0)))
