use Rattle.std.proofs.Common.{◌<◌, List, length, set, sym, ap, ◌∙◌, subst, arith, rules}
use Rattle.cell_model.specs.Cells.{Cell as StoredCell}
use Rattle.cell_page.specs.declared.cell.Cell.{Cell}
use Rattle.cell_page.specs.Stored.{cell_of}
use Rattle.log_replay.specs.Inside.{cells_of_pages}
use Rattle.log_replay.proofs.PageLists.{id_few, page_there, held_page, has_id, are_set, put_cell}
use Rattle.log_replay.proofs.pages.Pages.put.Goals as goal

pub page_of-requires-clause-few : goal.page_of-requires-clause-few
page_of-requires-clause-few g c = id_few c.self.inside.pages.items c.args.self.now c.args.cell.now.id c.self.invariant c.self.view_is c.requires.within

pub index_mut-requires : goal.index_mut-requires
index_mut-requires g c =
    let there = page_there c.self.inside.pages.items c.args.self.now c.args.cell.now.id c.page_of.result c.self.view_is c.requires.above c.requires.within c.page_of.ensures.page in
    let o = c.self.inside.pages.ok.0 in
    omega (arith, there, o)

pub put_cell-requires : goal.put_cell-requires
put_cell-requires g c =
    let there = page_there c.self.inside.pages.items c.args.self.now c.args.cell.now.id c.page_of.result c.self.view_is c.requires.above c.requires.within c.page_of.ensures.page in
    let page = held_page c.self.inside.pages.items c.page_of.result c.index_mut.result.now c.self.invariant there c.index_mut.ensures.value in
    (search rules, (search rules, has_id c.page_of.result c.args.cell.now.id c.index_mut.result.now page c.requires.above c.page_of.ensures.page))

pub invariant_of-self : goal.invariant_of-self
invariant_of-self g c =
    let there = page_there c.self.inside.pages.items c.args.self.now c.args.cell.now.id c.page_of.result c.self.view_is c.requires.above c.requires.within c.page_of.ensures.page in
    let page = held_page c.self.inside.pages.items c.page_of.result c.index_mut.result.now c.self.invariant there c.index_mut.ensures.value in
    are_set c.self.inside.pages.items c.page_of.result c.put_cell.new.self c.self.invariant there (c.put_cell.ensures.rules c.page_of.result page c.requires.rules)

pub returns : goal.returns
returns g c =
    let items = c.self.inside.pages.items in
    let cell = c.args.cell.now in
    let below : cell.id < length (cells_of_pages items) = subst (λ (cs : List StoredCell). cell.id < length cs) (sym c.self.view_is) c.requires.within in
    ap (λ (held : List (Cell _)). cells_of_pages (set items c.page_of.result held)) c.put_cell.ensures.placed
    ∙ (put_cell items cell.id c.page_of.result c.index_mut.result.now cell c.self.invariant c.requires.above below c.page_of.ensures.page c.index_mut.ensures.value
    ∙ ap (λ (cs : List StoredCell). set cs cell.id (cell_of cell)) c.self.view_is)
