use Rattle.std.proofs.Common.{List, cond, length, map, ap, ◌∙◌, arith}
use Rattle.cell_model.specs.Cells.{Cell as StoredCell, cell_at}
use Rattle.restart_laws.specs.Local.{is_in_page, cell_in}
use Rattle.cell_page.specs.Stored.{cell_of}
use Rattle.log_replay.proofs.PageLists.{page_below, length-set_page, put_page}
use Rattle.log_replay.proofs.pages.Pages.put_page.Goals as goal

pub index_mut-requires : goal.index_mut-requires
index_mut-requires g c =
    let there = page_below c.self.inside.pages.items c.args.self.now c.args.p c.self.view_is c.requires.within in
    let o = c.self.inside.pages.ok.0 in
    omega (arith, there, o)

pub returns-clause-length : goal.returns-clause-length
returns-clause-length g c = length-set_page c.self.inside.pages.items c.args.p c.args.page.now ∙ ap (λ (cs : List StoredCell). length cs) c.self.view_is

pub returns-clause-cells : goal.returns-clause-cells
returns-clause-cells g c = λ x.
    put_page c.self.inside.pages.items c.args.p c.args.page.now c.requires.rules (page_below c.self.inside.pages.items c.args.self.now c.args.p c.self.view_is c.requires.within) x
    ∙ ap (λ (cs : List StoredCell). cond (is_in_page c.args.p x) (cell_in c.args.p (map cell_of c.args.page.now) x) (cell_at cs x)) c.self.view_is
