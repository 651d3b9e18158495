use Rattle.std.proofs.Common.{◌≡◌, length, sym, subst, arith, rules}
use Rattle.cell_page.specs.declared.cell.Cell.{Cell}
use Rattle.cell_page.specs.Format.{place_of}
use Rattle.log_replay.proofs.PageLists.{place_below, id_few, page_there, held_page, has_id, got_cell}
use Rattle.log_replay.proofs.pages.Pages.get.Goals as goal

pub page_of-requires-clause-few : goal.page_of-requires-clause-few
page_of-requires-clause-few g c = id_few c.self.inside.pages.items c.args.self.now c.args.id c.self.invariant c.self.view_is c.requires.within

pub index-requires : goal.index-requires
index-requires g c =
    let there = page_there c.self.inside.pages.items c.args.self.now c.args.id c.page_of.result c.self.view_is c.requires.above c.requires.within c.page_of.ensures.page in
    let o = c.self.inside.pages.ok.0 in
    omega (arith, there, o)

pub cell-requires : goal.cell-requires
cell-requires g c =
    let there = page_there c.self.inside.pages.items c.args.self.now c.args.id c.page_of.result c.self.view_is c.requires.above c.requires.within c.page_of.ensures.page in
    let page = held_page c.self.inside.pages.items c.page_of.result c.index.result.now c.self.invariant there c.index.ensures in
    (search rules, (search rules, has_id c.page_of.result c.args.id c.index.result.now page c.requires.above c.page_of.ensures.page))

pub returns-clause-model : goal.returns-clause-model
returns-clause-model g c =
    got_cell c.self.inside.pages.items c.args.self.now c.args.id c.page_of.result c.index.result.now c.cell.result.now c.self.invariant c.self.view_is c.requires.above c.requires.within c.page_of.ensures.page c.index.ensures c.cell.ensures.placed

pub returns-clause-rules : goal.returns-clause-rules
returns-clause-rules g c =
    let there = page_there c.self.inside.pages.items c.args.self.now c.args.id c.page_of.result c.self.view_is c.requires.above c.requires.within c.page_of.ensures.page in
    c.cell.ensures.rules c.page_of.result (held_page c.self.inside.pages.items c.page_of.result c.index.result.now c.self.invariant there c.index.ensures)

pub returns-clause-slotted : goal.returns-clause-slotted
returns-clause-slotted g c =
    let cell = c.cell.result.now in
    let n = c.cell.ensures.eight in
    let k = place_below c.args.id in
    let typed = c.cell.ensures.typed (place_of c.args.id) cell (omega (arith, n, k)) in
    subst (λ (d : Cell _). length d.slots ≡ g.row.SLOTS) (sym c.cell.ensures.placed) typed.slot_count
