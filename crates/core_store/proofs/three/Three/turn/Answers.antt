use Rattle.std.proofs.Common.{rules, refl, Some, get_or, ap, ◌∙◌, ◌+◌, ◌^◌, ◌<◌, not}
use Rattle.std.specs.Vec.{with_item}
use Rattle.cell_model.specs.Cells.{Cell as StoredCell, counted}
use Rattle.core_store.specs.Changes.{has_no_strong}
use Rattle.core_store.specs.Slots.{turned}
use Rattle.core_store.proofs.ThreeEdits.{has-id, of-page, seen-then, holds-then, holds-all, kept-all, pages-all, agree-all, holds-put, kept-put, pages-put, agree-put}
use Rattle.core_store.proofs.ThreeLaws.{there-put}
use Rattle.core_store.proofs.three.Three.turn.Goals as goal

pub turn-requires : goal.turn-requires
turn-requires g c =
    let holds = holds-all c.self.invariant c.self.view_is c.args.id c.all_of.ensures c.page_of-page.ensures.page c.if-page-all_of.true c.in-Some.frames c.in-Some.is c.index_mut.result.now c.index_mut.ensures.value in
    let page = c.index_mut.result.now.page in
    (search rules, (has-id c.args.self.now c.args.id c.requires.above.0 page holds c.requires.some.0 c.requires.some.1, (of-page c.args.self.now c.args.id c.requires.above.0 page holds (λ (s : StoredCell). 0 < counted c.args.bit s) c.requires.some.0 c.requires.some.1 c.requires.some.3, of-page c.args.self.now c.args.id c.requires.above.0 page holds (λ (s : StoredCell). counted (not c.args.bit) s + 1 < 2 ^ 32) c.requires.room.0 c.requires.room.1 c.requires.room.2)))

pub invariant_of-self : goal.invariant_of-self
invariant_of-self g c =
    kept-all c.self.invariant c.self.view_is c.args.id c.all_of.ensures c.page_of-page.ensures.page c.if-page-all_of.true c.in-Some.frames c.in-Some.is c.index_mut.result.now c.index_mut.ensures.value (Some (with_item c.in-Some.frames c.page_of-page.result (record { page = c.turn.new.self }))) c.turn.new.self refl

pub returns-in-Some-clause-zero : goal.returns-in-Some-clause-zero
returns-in-Some-clause-zero g c = λ cells agree.
    let holds = holds-all c.self.invariant c.self.view_is c.args.id c.all_of.ensures c.page_of-page.ensures.page c.if-page-all_of.true c.in-Some.frames c.in-Some.is c.index_mut.result.now c.index_mut.ensures.value in
    let page = c.index_mut.result.now.page in
    c.turn.ensures.zero ∙ ap (λ (s : StoredCell). has_no_strong s) (seen-then c.args.self.now c.args.id c.requires.above.0 page holds c.turn.new.self (turned c.args.bit) c.turn.ensures.model cells agree)

pub returns-in-Some-clause-stored : goal.returns-in-Some-clause-stored
returns-in-Some-clause-stored g c = λ cells agree.
    let holds = holds-all c.self.invariant c.self.view_is c.args.id c.all_of.ensures c.page_of-page.ensures.page c.if-page-all_of.true c.in-Some.frames c.in-Some.is c.index_mut.result.now c.index_mut.ensures.value in
    let page = c.index_mut.result.now.page in
    agree-all c.self.invariant c.self.view_is c.args.id c.all_of.ensures c.page_of-page.ensures.page c.if-page-all_of.true c.in-Some.frames c.in-Some.is c.index_mut.result.now c.index_mut.ensures.value (Some (with_item c.in-Some.frames c.page_of-page.result (record { page = c.turn.new.self }))) c.turn.new.self refl (turned c.args.bit)
    (holds-then c.args.self.now c.args.id c.requires.above.0 page holds c.turn.new.self (turned c.args.bit) c.turn.ensures.model c.requires.some.0 c.requires.some.1 c.requires.some.2 c.turn.ensures.rules) cells agree

pub returns-in-Some-clause-pages : goal.returns-in-Some-clause-pages
returns-in-Some-clause-pages g c =
    pages-all c.self.invariant c.self.view_is c.args.id c.all_of.ensures c.page_of-page.ensures.page c.if-page-all_of.true c.in-Some.frames c.in-Some.is c.index_mut.result.now c.index_mut.ensures.value (Some (with_item c.in-Some.frames c.page_of-page.result (record { page = c.turn.new.self }))) c.turn.new.self refl

pub place_of-place-requires : goal.place_of-place-requires
place_of-place-requires g c =
    (search rules, there-put c.self.inside.all c.self.inside.frames c.self.inside.count c.self.view_is c.args.id c.all_of.ensures c.page_of-page.ensures.page c.if-page-all_of.false c.requires.there)

pub turn-requires-2 : goal.turn-requires-2
turn-requires-2 g c =
    let d = c.index-self-place.result in
    let holds = holds-put c.self.invariant c.self.view_is c.args.id c.all_of.ensures c.page_of-page.ensures.page c.requires.above.0 c.if-page-all_of.false c.place_of-place.result d c.place_of-place.ensures.within (c.place_of-place.ensures.page d) in
    let page = (get_or c.self.inside.frames c.place_of-place.result d).frame.page in
    (search rules, (has-id c.args.self.now c.args.id c.requires.above.0 page holds c.requires.some.0 c.requires.some.1, (of-page c.args.self.now c.args.id c.requires.above.0 page holds (λ (s : StoredCell). 0 < counted c.args.bit s) c.requires.some.0 c.requires.some.1 c.requires.some.3, of-page c.args.self.now c.args.id c.requires.above.0 page holds (λ (s : StoredCell). counted (not c.args.bit) s + 1 < 2 ^ 32) c.requires.room.0 c.requires.room.1 c.requires.room.2)))

pub invariant_of-self-2 : goal.invariant_of-self-2
invariant_of-self-2 g c =
    let d = c.index-self-place.result in
    kept-put c.self.invariant c.self.view_is c.args.id c.all_of.ensures c.page_of-page.ensures.page c.requires.above.0 c.if-page-all_of.false c.place_of-place.result d c.place_of-place.ensures.within (c.place_of-place.ensures.page d) c.turn-2.new.self

pub returns-clause-zero : goal.returns-clause-zero
returns-clause-zero g c = λ cells agree.
    let d = c.index-self-place.result in
    let holds = holds-put c.self.invariant c.self.view_is c.args.id c.all_of.ensures c.page_of-page.ensures.page c.requires.above.0 c.if-page-all_of.false c.place_of-place.result d c.place_of-place.ensures.within (c.place_of-place.ensures.page d) in
    let page = (get_or c.self.inside.frames c.place_of-place.result d).frame.page in
    c.turn-2.ensures.zero ∙ ap (λ (s : StoredCell). has_no_strong s) (seen-then c.args.self.now c.args.id c.requires.above.0 page holds c.turn-2.new.self (turned c.args.bit) c.turn-2.ensures.model cells agree)

pub returns-clause-stored : goal.returns-clause-stored
returns-clause-stored g c = λ cells agree.
    let d = c.index-self-place.result in
    let holds = holds-put c.self.invariant c.self.view_is c.args.id c.all_of.ensures c.page_of-page.ensures.page c.requires.above.0 c.if-page-all_of.false c.place_of-place.result d c.place_of-place.ensures.within (c.place_of-place.ensures.page d) in
    let page = (get_or c.self.inside.frames c.place_of-place.result d).frame.page in
    agree-put c.self.invariant c.self.view_is c.args.id c.all_of.ensures c.page_of-page.ensures.page c.requires.above.0 c.if-page-all_of.false c.place_of-place.result d c.place_of-place.ensures.within (c.place_of-place.ensures.page d) c.turn-2.new.self (turned c.args.bit)
    (holds-then c.args.self.now c.args.id c.requires.above.0 page holds c.turn-2.new.self (turned c.args.bit) c.turn-2.ensures.model c.requires.some.0 c.requires.some.1 c.requires.some.2 c.turn-2.ensures.rules) cells agree

pub returns-clause-pages : goal.returns-clause-pages
returns-clause-pages g c =
    let d = c.index-self-place.result in
    pages-put c.self.invariant c.self.view_is c.args.id c.all_of.ensures c.page_of-page.ensures.page c.requires.above.0 c.if-page-all_of.false c.place_of-place.result d c.place_of-place.ensures.within (c.place_of-place.ensures.page d) c.turn-2.new.self
