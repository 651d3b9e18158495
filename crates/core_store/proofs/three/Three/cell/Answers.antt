use Rattle.std.proofs.Common.{rules, subst, sym, ap, ◌∙◌}
use Rattle.cell_page.specs.declared.cell.Cell.{Cell}
use Rattle.cell_page.specs.Format.{IsCell}
use Rattle.cell_page.specs.Stored.{cell_of}
use Rattle.core_store.proofs.PagePlaces.{IsCell-held, HasId-held, cell-held}
use Rattle.core_store.proofs.ThreeLaws.{page-in-all, page-put, there-put}
use Rattle.core_store.proofs.three.Three.cell.Goals as goal

pub cell-requires : goal.cell-requires
cell-requires g c = (search rules, (search rules, HasId-held c.requires.agrees.0 c.args.id _ c.requires.above.0 (page-in-all c.self.inside.all c.self.inside.frames c.self.inside.count c.self.view_is c.args.id c.all_of-all.ensures c.page_of-page.ensures.page c.requires.agrees.1 c.if-page-all.true _)))

pub returns-then-page-all-clause-stored : goal.returns-then-page-all-clause-stored
returns-then-page-all-clause-stored g c = λ cells agree.
    ap (λ (x : Cell g.row.SLOTS). cell_of x) c.cell.ensures.placed ∙ cell-held cells c.args.id _ c.requires.above.0 (page-in-all c.self.inside.all c.self.inside.frames c.self.inside.count c.self.view_is c.args.id c.all_of-all.ensures c.page_of-page.ensures.page agree c.if-page-all.true _) c.cell.result.now

pub returns-then-page-all-clause-rules : goal.returns-then-page-all-clause-rules
returns-then-page-all-clause-rules g c =
    subst (λ (x : Cell g.row.SLOTS). IsCell c.args.id x) (sym c.cell.ensures.placed)
    (IsCell-held c.requires.agrees.0 c.args.id _ c.requires.above.0 (page-in-all c.self.inside.all c.self.inside.frames c.self.inside.count c.self.view_is c.args.id c.all_of-all.ensures c.page_of-page.ensures.page c.requires.agrees.1 c.if-page-all.true _) c.cell.result.now)

pub place_of-place-requires : goal.place_of-place-requires
place_of-place-requires g c = (search rules, there-put c.self.inside.all c.self.inside.frames c.self.inside.count c.self.view_is c.args.id c.all_of-all.ensures c.page_of-page.ensures.page c.if-page-all.false c.requires.there)

pub cell-requires-2 : goal.cell-requires-2
cell-requires-2 g c =
    let d = c.index-self-place.result in
    (search rules, (search rules, HasId-held c.requires.agrees.0 c.args.id _ c.requires.above.0 (page-put c.self.inside.all c.self.inside.frames c.self.inside.count c.self.view_is c.args.id c.all_of-all.ensures c.page_of-page.ensures.page c.requires.agrees.1 c.requires.above.0 c.place_of-place.ensures.within d (c.place_of-place.ensures.page d))))

pub returns-clause-stored : goal.returns-clause-stored
returns-clause-stored g c = λ cells agree.
    let d = c.index-self-place.result in
    ap (λ (x : Cell g.row.SLOTS). cell_of x) c.cell-2.ensures.placed
    ∙ cell-held cells c.args.id _ c.requires.above.0 (page-put c.self.inside.all c.self.inside.frames c.self.inside.count c.self.view_is c.args.id c.all_of-all.ensures c.page_of-page.ensures.page agree c.requires.above.0 c.place_of-place.ensures.within d (c.place_of-place.ensures.page d)) c.cell-2.result.now

pub returns-clause-rules : goal.returns-clause-rules
returns-clause-rules g c =
    let d = c.index-self-place.result in
    subst (λ (x : Cell g.row.SLOTS). IsCell c.args.id x) (sym c.cell-2.ensures.placed)
    (IsCell-held c.requires.agrees.0 c.args.id _ c.requires.above.0 (page-put c.self.inside.all c.self.inside.frames c.self.inside.count c.self.view_is c.args.id c.all_of-all.ensures c.page_of-page.ensures.page c.requires.agrees.1 c.requires.above.0 c.place_of-place.ensures.within d (c.place_of-place.ensures.page d)) c.cell-2.result.now)
