use Rattle.std.proofs.Common.{rules, subst, sym, ap, ◌∙◌, List, [], get_or, set, refl}
use Rattle.cell_page.specs.Format.{page_of_id, place_of}
use Rattle.core_store.specs.declared.frame.Frame.{Frame}
use Rattle.core_store.specs.declared.three.HeldFrame.{HeldFrame}
use Rattle.core_store.specs.Frames.{Agree, pages_held}
use Rattle.core_store.specs.Inside.{frames_of_all}
use Rattle.core_store.proofs.PagePlaces.{HasId-held}
use Rattle.core_store.proofs.ThreeLaws.{page-put, there-put, behind-all, within-all, holds-in-all, AreThreeInside-set, AreThreeInside-in-all, pages-changed, pages-in-all, Agree-place, Agree-in-all}
use Rattle.core_store.proofs.three.Three.put_cell.Goals as goal

pub put_in_all-requires : goal.put_in_all-requires
put_in_all-requires g c =
    let a = c.self.inside in
    let agree = subst (λ (hs : List (HeldFrame g.row.SLOTS)). Agree c.requires.agrees.0 hs) (sym c.self.view_is) c.requires.agrees.1 in
    let within = within-all a.all a.frames a.count c.self.view_is c.args.cell.id c.all_of.ensures c.page_of-page.ensures.page c.if-page-all_of.true in
    (search rules, (search rules, (c.requires.above, (within, (λ d. HasId-held c.requires.agrees.0 c.args.cell.id (get_or (frames_of_all a.all) (page_of_id c.args.cell.id) d).page c.requires.above.0 (holds-in-all a.all a.frames a.count c.requires.agrees.0 agree c.args.cell.id d within), c.requires.rules)))))

pub invariant_of-self : goal.invariant_of-self
invariant_of-self g c =
    let a = c.self.inside in
    let within = within-all a.all a.frames a.count c.self.view_is c.args.cell.id c.all_of.ensures c.page_of-page.ensures.page c.if-page-all_of.true in
    let d : Frame g.row.SLOTS = record { page = [] } in
    let f : Frame g.row.SLOTS = record { page = set (get_or (frames_of_all a.all) (page_of_id c.args.cell.id) d).page (place_of c.args.cell.id) c.args.cell } in
    AreThreeInside-in-all c.self.invariant c.put_in_all.new.all (page_of_id c.args.cell.id) f within (c.put_in_all.ensures.put d)

pub returns-then-page-all_of-clause-stored : goal.returns-then-page-all_of-clause-stored
returns-then-page-all_of-clause-stored g c = λ cells agree.
    let a = c.self.inside in
    let within = within-all a.all a.frames a.count c.self.view_is c.args.cell.id c.all_of.ensures c.page_of-page.ensures.page c.if-page-all_of.true in
    let d : Frame g.row.SLOTS = record { page = [] } in
    let f : Frame g.row.SLOTS = record { page = set (get_or (frames_of_all a.all) (page_of_id c.args.cell.id) d).page (place_of c.args.cell.id) c.args.cell } in
    Agree-in-all c.self.invariant c.put_in_all.new.all (page_of_id c.args.cell.id) f within (c.put_in_all.ensures.put d) cells d c.args.cell
    (subst (λ (hs : List (HeldFrame g.row.SLOTS)). Agree cells hs) (sym c.self.view_is) agree) c.requires.above.0 c.requires.rules refl refl

pub returns-then-page-all_of-clause-pages : goal.returns-then-page-all_of-clause-pages
returns-then-page-all_of-clause-pages g c =
    let a = c.self.inside in
    let within = within-all a.all a.frames a.count c.self.view_is c.args.cell.id c.all_of.ensures c.page_of-page.ensures.page c.if-page-all_of.true in
    let d : Frame g.row.SLOTS = record { page = [] } in
    let f : Frame g.row.SLOTS = record { page = set (get_or (frames_of_all a.all) (page_of_id c.args.cell.id) d).page (place_of c.args.cell.id) c.args.cell } in
    pages-in-all c.self.invariant c.put_in_all.new.all (page_of_id c.args.cell.id) f within (c.put_in_all.ensures.put d) ∙ ap (λ (hs : List (HeldFrame g.row.SLOTS)). pages_held hs) c.self.view_is

pub place_of-place-requires : goal.place_of-place-requires
place_of-place-requires g c = (search rules, there-put c.self.inside.all c.self.inside.frames c.self.inside.count c.self.view_is c.args.cell.id c.all_of.ensures c.page_of-page.ensures.page c.if-page-all_of.false c.requires.there)

pub put_cell-requires : goal.put_cell-requires
put_cell-requires g c =
    let d = c.index-self-place.result in
    (search rules, (search rules, HasId-held c.requires.agrees.0 c.args.cell.id _ c.requires.above.0 (page-put c.self.inside.all c.self.inside.frames c.self.inside.count c.self.view_is c.args.cell.id c.all_of.ensures c.page_of-page.ensures.page c.requires.agrees.1 c.requires.above.0 c.place_of-place.ensures.within d (c.place_of-place.ensures.page d))))

pub invariant_of-self-2 : goal.invariant_of-self-2
invariant_of-self-2 g c =
    let d = c.index-self-place.result in
    let h : HeldFrame g.row.SLOTS = record { page = (get_or c.self.inside.frames c.place_of-place.result d).page; frame = record { page = c.put_cell.new.self } } in
    AreThreeInside-set c.self.invariant c.place_of-place.result h d c.place_of-place.ensures.within refl

pub returns-clause-stored : goal.returns-clause-stored
returns-clause-stored g c = λ cells agree.
    let place = c.place_of-place.ensures in
    let d = c.index-self-place.result in
    let h : HeldFrame g.row.SLOTS = record { page = (get_or c.self.inside.frames c.place_of-place.result d).page; frame = record { page = c.put_cell.new.self } } in
    Agree-place c.self.invariant cells c.place_of-place.result h d c.args.cell (subst (λ (hs : List (HeldFrame g.row.SLOTS)). Agree cells hs) (sym c.self.view_is) agree)
    c.requires.above.0 c.requires.rules place.within (place.page d ∙ c.page_of-page.ensures.page) (behind-all c.self.inside.all c.self.inside.frames c.self.inside.count c.self.view_is c.args.cell.id c.all_of.ensures c.page_of-page.ensures.page c.if-page-all_of.false) refl c.put_cell.ensures.placed

pub returns-clause-pages : goal.returns-clause-pages
returns-clause-pages g c =
    let d = c.index-self-place.result in
    let h : HeldFrame g.row.SLOTS = record { page = (get_or c.self.inside.frames c.place_of-place.result d).page; frame = record { page = c.put_cell.new.self } } in
    pages-changed c.self.invariant c.place_of-place.result h d c.place_of-place.ensures.within refl ∙ ap (λ (hs : List (HeldFrame g.row.SLOTS)). pages_held hs) c.self.view_is
