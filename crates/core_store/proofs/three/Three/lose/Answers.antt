use Rattle.std.proofs.Common.{rules, refl, Some, get_or, ap, ◌∙◌, ◌<◌}
use Rattle.std.specs.Vec.{with_item}
use Rattle.cell_model.specs.Cells.{Cell as StoredCell, loses, counted, same}
use Rattle.core_store.specs.Changes.{has_no_strong}
use Rattle.core_store.proofs.ThreeEdits.{has-id, seen, of-page, seen-then, holds-then, holds-all, kept-all, pages-all, agree-all, holds-put, kept-put, pages-put, agree-put}
use Rattle.core_store.proofs.ThreeLaws.{there-put}
use Rattle.core_store.proofs.three.Three.lose.Goals as goal

pub lose-requires : goal.lose-requires
lose-requires g c =
    let holds = holds-all c.self.invariant c.self.view_is c.args.id c.all_of.ensures c.page_of-page.ensures.page c.if-page-all_of.true c.in-Some.frames c.in-Some.is c.index_mut.result.now c.index_mut.ensures.value in
    let page = c.index_mut.result.now.page in
    (search rules, (has-id c.args.self.now c.args.id c.requires.above.0 page holds c.requires.some.0 c.requires.some.1, of-page c.args.self.now c.args.id c.requires.above.0 page holds (λ (s : StoredCell). 0 < counted c.args.bit s) c.requires.some.0 c.requires.some.1 c.requires.some.3))

pub invariant_of-self : goal.invariant_of-self
invariant_of-self g c =
    kept-all c.self.invariant c.self.view_is c.args.id c.all_of.ensures c.page_of-page.ensures.page c.if-page-all_of.true c.in-Some.frames c.in-Some.is c.index_mut.result.now c.index_mut.ensures.value (Some (with_item c.in-Some.frames c.page_of-page.result (record { page = c.lose.new.self }))) c.lose.new.self refl

pub returns-in-Some-clause-zero : goal.returns-in-Some-clause-zero
returns-in-Some-clause-zero g c = λ cells agree.
    let holds = holds-all c.self.invariant c.self.view_is c.args.id c.all_of.ensures c.page_of-page.ensures.page c.if-page-all_of.true c.in-Some.frames c.in-Some.is c.index_mut.result.now c.index_mut.ensures.value in
    let page = c.index_mut.result.now.page in
    c.lose.ensures.zero ∙ ap (λ (s : StoredCell). has_no_strong s) (seen-then c.args.self.now c.args.id c.requires.above.0 page holds c.lose.new.self (loses c.args.bit) c.lose.ensures.model cells agree)

pub returns-in-Some-clause-strong : goal.returns-in-Some-clause-strong
returns-in-Some-clause-strong g c = λ cells agree.
    let holds = holds-all c.self.invariant c.self.view_is c.args.id c.all_of.ensures c.page_of-page.ensures.page c.if-page-all_of.true c.in-Some.frames c.in-Some.is c.index_mut.result.now c.index_mut.ensures.value in
    let page = c.index_mut.result.now.page in
    c.lose.ensures.strong ∙ ap (λ (s : StoredCell). same s.bit c.args.bit) (seen c.args.self.now c.args.id c.requires.above.0 page holds cells agree)

pub returns-in-Some-clause-stored : goal.returns-in-Some-clause-stored
returns-in-Some-clause-stored g c = λ cells agree.
    let holds = holds-all c.self.invariant c.self.view_is c.args.id c.all_of.ensures c.page_of-page.ensures.page c.if-page-all_of.true c.in-Some.frames c.in-Some.is c.index_mut.result.now c.index_mut.ensures.value in
    let page = c.index_mut.result.now.page in
    agree-all c.self.invariant c.self.view_is c.args.id c.all_of.ensures c.page_of-page.ensures.page c.if-page-all_of.true c.in-Some.frames c.in-Some.is c.index_mut.result.now c.index_mut.ensures.value (Some (with_item c.in-Some.frames c.page_of-page.result (record { page = c.lose.new.self }))) c.lose.new.self refl (loses c.args.bit)
    (holds-then c.args.self.now c.args.id c.requires.above.0 page holds c.lose.new.self (loses c.args.bit) c.lose.ensures.model c.requires.some.0 c.requires.some.1 c.requires.some.2 c.lose.ensures.rules) cells agree

pub returns-in-Some-clause-pages : goal.returns-in-Some-clause-pages
returns-in-Some-clause-pages g c =
    pages-all c.self.invariant c.self.view_is c.args.id c.all_of.ensures c.page_of-page.ensures.page c.if-page-all_of.true c.in-Some.frames c.in-Some.is c.index_mut.result.now c.index_mut.ensures.value (Some (with_item c.in-Some.frames c.page_of-page.result (record { page = c.lose.new.self }))) c.lose.new.self refl

pub place_of-place-requires : goal.place_of-place-requires
place_of-place-requires g c =
    (search rules, there-put c.self.inside.all c.self.inside.frames c.self.inside.count c.self.view_is c.args.id c.all_of.ensures c.page_of-page.ensures.page c.if-page-all_of.false c.requires.there)

pub lose-requires-2 : goal.lose-requires-2
lose-requires-2 g c =
    let d = c.index-self-place.result in
    let holds = holds-put c.self.invariant c.self.view_is c.args.id c.all_of.ensures c.page_of-page.ensures.page c.requires.above.0 c.if-page-all_of.false c.place_of-place.result d c.place_of-place.ensures.within (c.place_of-place.ensures.page d) in
    let page = (get_or c.self.inside.frames c.place_of-place.result d).frame.page in
    (search rules, (has-id c.args.self.now c.args.id c.requires.above.0 page holds c.requires.some.0 c.requires.some.1, of-page c.args.self.now c.args.id c.requires.above.0 page holds (λ (s : StoredCell). 0 < counted c.args.bit s) c.requires.some.0 c.requires.some.1 c.requires.some.3))

pub invariant_of-self-2 : goal.invariant_of-self-2
invariant_of-self-2 g c =
    let d = c.index-self-place.result in
    kept-put c.self.invariant c.self.view_is c.args.id c.all_of.ensures c.page_of-page.ensures.page c.requires.above.0 c.if-page-all_of.false c.place_of-place.result d c.place_of-place.ensures.within (c.place_of-place.ensures.page d) c.lose-2.new.self

pub returns-clause-zero : goal.returns-clause-zero
returns-clause-zero g c = λ cells agree.
    let d = c.index-self-place.result in
    let holds = holds-put c.self.invariant c.self.view_is c.args.id c.all_of.ensures c.page_of-page.ensures.page c.requires.above.0 c.if-page-all_of.false c.place_of-place.result d c.place_of-place.ensures.within (c.place_of-place.ensures.page d) in
    let page = (get_or c.self.inside.frames c.place_of-place.result d).frame.page in
    c.lose-2.ensures.zero ∙ ap (λ (s : StoredCell). has_no_strong s) (seen-then c.args.self.now c.args.id c.requires.above.0 page holds c.lose-2.new.self (loses c.args.bit) c.lose-2.ensures.model cells agree)

pub returns-clause-strong : goal.returns-clause-strong
returns-clause-strong g c = λ cells agree.
    let d = c.index-self-place.result in
    let holds = holds-put c.self.invariant c.self.view_is c.args.id c.all_of.ensures c.page_of-page.ensures.page c.requires.above.0 c.if-page-all_of.false c.place_of-place.result d c.place_of-place.ensures.within (c.place_of-place.ensures.page d) in
    let page = (get_or c.self.inside.frames c.place_of-place.result d).frame.page in
    c.lose-2.ensures.strong ∙ ap (λ (s : StoredCell). same s.bit c.args.bit) (seen c.args.self.now c.args.id c.requires.above.0 page holds cells agree)

pub returns-clause-stored : goal.returns-clause-stored
returns-clause-stored g c = λ cells agree.
    let d = c.index-self-place.result in
    let holds = holds-put c.self.invariant c.self.view_is c.args.id c.all_of.ensures c.page_of-page.ensures.page c.requires.above.0 c.if-page-all_of.false c.place_of-place.result d c.place_of-place.ensures.within (c.place_of-place.ensures.page d) in
    let page = (get_or c.self.inside.frames c.place_of-place.result d).frame.page in
    agree-put c.self.invariant c.self.view_is c.args.id c.all_of.ensures c.page_of-page.ensures.page c.requires.above.0 c.if-page-all_of.false c.place_of-place.result d c.place_of-place.ensures.within (c.place_of-place.ensures.page d) c.lose-2.new.self (loses c.args.bit)
    (holds-then c.args.self.now c.args.id c.requires.above.0 page holds c.lose-2.new.self (loses c.args.bit) c.lose-2.ensures.model c.requires.some.0 c.requires.some.1 c.requires.some.2 c.lose-2.ensures.rules) cells agree

pub returns-clause-pages : goal.returns-clause-pages
returns-clause-pages g c =
    let d = c.index-self-place.result in
    pages-put c.self.invariant c.self.view_is c.args.id c.all_of.ensures c.page_of-page.ensures.page c.requires.above.0 c.if-page-all_of.false c.place_of-place.result d c.place_of-place.ensures.within (c.place_of-place.ensures.page d) c.lose-2.new.self
