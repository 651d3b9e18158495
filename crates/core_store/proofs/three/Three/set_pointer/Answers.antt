use Rattle.std.proofs.Common.{rules, refl, Some, get_or, ◌≤◌, arith, ⊎_elim}
use Rattle.std.specs.Vec.{with_item}
use Rattle.cell_model.specs.Cells.{relink}
use Rattle.core_store.proofs.ThreeEdits.{has-id, holds-then, holds-all, kept-all, pages-all, agree-all, holds-put, kept-put, pages-put, agree-put}
use Rattle.core_store.proofs.ThreeLaws.{there-put}
use Rattle.core_store.proofs.three.Three.set_pointer.Goals as goal

pub set_pointer-requires : goal.set_pointer-requires
set_pointer-requires g c =
    let small : g.row.SLOTS ≤ 14 = ⊎_elim (λ six. omega arith) (λ fourteen. omega arith) c.requires.size in
    let holds = holds-all c.self.invariant c.self.view_is c.args.id c.all_of.ensures c.page_of-page.ensures.page c.if-page-all_of.true c.in-Some.frames c.in-Some.is c.index_mut.result.now c.index_mut.ensures.value in
    let page = c.index_mut.result.now.page in
    (search rules, (c.requires.size, (has-id c.args.self.now c.args.id c.requires.above.0 page holds c.requires.agrees.0 c.requires.agrees.1, c.requires.within)))

pub invariant_of-self : goal.invariant_of-self
invariant_of-self g c =
    kept-all c.self.invariant c.self.view_is c.args.id c.all_of.ensures c.page_of-page.ensures.page c.if-page-all_of.true c.in-Some.frames c.in-Some.is c.index_mut.result.now c.index_mut.ensures.value (Some (with_item c.in-Some.frames c.page_of-page.result (record { page = c.set_pointer.new.self }))) c.set_pointer.new.self refl

pub returns-in-Some-clause-stored : goal.returns-in-Some-clause-stored
returns-in-Some-clause-stored g c = λ cells agree.
    let holds = holds-all c.self.invariant c.self.view_is c.args.id c.all_of.ensures c.page_of-page.ensures.page c.if-page-all_of.true c.in-Some.frames c.in-Some.is c.index_mut.result.now c.index_mut.ensures.value in
    let page = c.index_mut.result.now.page in
    agree-all c.self.invariant c.self.view_is c.args.id c.all_of.ensures c.page_of-page.ensures.page c.if-page-all_of.true c.in-Some.frames c.in-Some.is c.index_mut.result.now c.index_mut.ensures.value (Some (with_item c.in-Some.frames c.page_of-page.result (record { page = c.set_pointer.new.self }))) c.set_pointer.new.self refl (relink c.args.slot (record { target = c.args.target; bit = c.args.bit }))
    (holds-then c.args.self.now c.args.id c.requires.above.0 page holds c.set_pointer.new.self (relink c.args.slot (record { target = c.args.target; bit = c.args.bit })) c.set_pointer.ensures.model c.requires.agrees.0 c.requires.agrees.1 c.requires.agrees.2 (λ n rules live. c.set_pointer.ensures.rules n rules live c.requires.null)) cells agree

pub returns-in-Some-clause-pages : goal.returns-in-Some-clause-pages
returns-in-Some-clause-pages g c =
    pages-all c.self.invariant c.self.view_is c.args.id c.all_of.ensures c.page_of-page.ensures.page c.if-page-all_of.true c.in-Some.frames c.in-Some.is c.index_mut.result.now c.index_mut.ensures.value (Some (with_item c.in-Some.frames c.page_of-page.result (record { page = c.set_pointer.new.self }))) c.set_pointer.new.self refl

pub place_of-place-requires : goal.place_of-place-requires
place_of-place-requires g c =
    (search rules, there-put c.self.inside.all c.self.inside.frames c.self.inside.count c.self.view_is c.args.id c.all_of.ensures c.page_of-page.ensures.page c.if-page-all_of.false c.requires.there)

pub set_pointer-requires-2 : goal.set_pointer-requires-2
set_pointer-requires-2 g c =
    let small : g.row.SLOTS ≤ 14 = ⊎_elim (λ six. omega arith) (λ fourteen. omega arith) c.requires.size in
    let d = c.index-self-place.result in
    let holds = holds-put c.self.invariant c.self.view_is c.args.id c.all_of.ensures c.page_of-page.ensures.page c.requires.above.0 c.if-page-all_of.false c.place_of-place.result d c.place_of-place.ensures.within (c.place_of-place.ensures.page d) in
    let page = (get_or c.self.inside.frames c.place_of-place.result d).frame.page in
    (search rules, (c.requires.size, (has-id c.args.self.now c.args.id c.requires.above.0 page holds c.requires.agrees.0 c.requires.agrees.1, c.requires.within)))

pub invariant_of-self-2 : goal.invariant_of-self-2
invariant_of-self-2 g c =
    let d = c.index-self-place.result in
    kept-put c.self.invariant c.self.view_is c.args.id c.all_of.ensures c.page_of-page.ensures.page c.requires.above.0 c.if-page-all_of.false c.place_of-place.result d c.place_of-place.ensures.within (c.place_of-place.ensures.page d) c.set_pointer-2.new.self

pub returns-clause-stored : goal.returns-clause-stored
returns-clause-stored g c = λ cells agree.
    let d = c.index-self-place.result in
    let holds = holds-put c.self.invariant c.self.view_is c.args.id c.all_of.ensures c.page_of-page.ensures.page c.requires.above.0 c.if-page-all_of.false c.place_of-place.result d c.place_of-place.ensures.within (c.place_of-place.ensures.page d) in
    let page = (get_or c.self.inside.frames c.place_of-place.result d).frame.page in
    agree-put c.self.invariant c.self.view_is c.args.id c.all_of.ensures c.page_of-page.ensures.page c.requires.above.0 c.if-page-all_of.false c.place_of-place.result d c.place_of-place.ensures.within (c.place_of-place.ensures.page d) c.set_pointer-2.new.self (relink c.args.slot (record { target = c.args.target; bit = c.args.bit }))
    (holds-then c.args.self.now c.args.id c.requires.above.0 page holds c.set_pointer-2.new.self (relink c.args.slot (record { target = c.args.target; bit = c.args.bit })) c.set_pointer-2.ensures.model c.requires.agrees.0 c.requires.agrees.1 c.requires.agrees.2 (λ n rules live. c.set_pointer-2.ensures.rules n rules live c.requires.null)) cells agree

pub returns-clause-pages : goal.returns-clause-pages
returns-clause-pages g c =
    let d = c.index-self-place.result in
    pages-put c.self.invariant c.self.view_is c.args.id c.all_of.ensures c.page_of-page.ensures.page c.requires.above.0 c.if-page-all_of.false c.place_of-place.result d c.place_of-place.ensures.within (c.place_of-place.ensures.page d) c.set_pointer-2.new.self
