use Rattle.std.proofs.Common.{◌≡◌, List, Bool, Some, refl, sym, ap, ◌∙◌, subst, arith, rules}
use Rattle.plain_model.specs.declared.calls.Reply.TheVariants as reply
use Rattle.ref_tables.specs.Refs.{Table, room_of}
use Rattle.core_store.specs.Changes.{stored_change, store_record}
use Rattle.core_store.specs.References.{targets_of}
use Rattle.core_store.specs.RoundView.{touched_by_record}
use Rattle.core_store.specs.Slots.{IsReadyToChange, Changes}
use Rattle.core_store.specs.declared.plan.Plan.TheVariants as plan
use Rattle.core_store.specs.Tables.{TablesView}
use Rattle.core_store.specs.Ready.{Does, OwnsToWrite}
use Rattle.core_store.specs.Views.{view_of}
use Rattle.core_store.proofs.HandlerLaws.{small-store, ready-store, noted-view, slot-target}
use Rattle.core_store.proofs.MapLaws.{on_err}
use Rattle.core_store.proofs.NameLaws.{names_in, named_more-same}
use Rattle.core_store.proofs.StoreHandler.{with_store, does-store}
use Rattle.core_store.proofs.RoomLaws.{room-taken}
use Rattle.core_store.proofs.tables.Tables.store.Goals as goal

pub cell-requires : goal.cell-requires
cell-requires g c =
    let r = c.requires.ready in
    (search rules, (search rules, (small-store (view_of c.args.self.now) c.args.held.now c.args.pass c.args.id c.args.slot c.args.target r, (r.pages.0, (r.standing.core.cells, r.standing.agree)))))

pub returns-in_err-reserve-clause-err : goal.returns-in_err-reserve-clause-err
returns-in_err-reserve-clause-err g c = on_err c.from_residual.result _ (room-taken c.args.self.now c.reserve.new.self c.reserve.ensures.same, refl)

pub returns-in_err-own_to_write-clause-err : goal.returns-in_err-own_to_write-clause-err
returns-in_err-own_to_write-clause-err g c = on_err c.from_residual-in_err-own_to_write.result _ (c.in_err-own_to_write.ensures.err ∙ room-taken c.args.self.now c.reserve.new.self c.reserve.ensures.same, refl)

pub store-change-requires : goal.store-change-requires
store-change-requires g c =
    let v = view_of c.args.self.now in
    let noted = c.in_ok-own_to_write.ensures.ok in
    (search rules, (c.requires.ready.standing.stands.counted, subst (λ (z : List Bool). IsReadyToChange c.args.held.now z c.args.id c.args.slot c.args.target) (sym noted.zeros) (ready-store v c.args.held.now c.args.pass c.args.id c.args.slot c.args.target c.requires.ready)))

pub note-requires : goal.note-requires
note-requires g c =
    let room = c.in_ok-reserve.ensures.ok in
    let same = ap (λ (t : Table). room_of t c.args.pass) c.own_to_write.ensures.references in
    omega (arith, room, same)

pub note-requires-2 : goal.note-requires-2
note-requires-2 g c =
    let room = c.in_ok-reserve.ensures.ok in
    let same = ap (λ (t : Table). room_of t c.args.pass) c.own_to_write.ensures.references in
    let less = c.note.ensures.room in
    omega (arith, room, same, less)

pub returns-clause-ok : goal.returns-clause-ok
returns-clause-ok g c =
    let v = view_of c.args.self.now in
    let vr : TablesView = record v { references = names_in c.reserve.new.self } in
    let w = view_of c.own_to_write.new.self in
    let held = c.args.held.now in
    let new = c.store-change.new.held in
    let marks = c.store-change.new.zeros.items in
    let change = c.store-change.result in
    let logged = store_record c.args.pass c.args.id c.args.slot c.args.target change in
    let named = names_in c.note-2.new.references in
    let noted : OwnsToWrite vr w c.args.pass c.args.id _ = c.in_ok-own_to_write.ensures.ok in
    let is : view_of c.touch.new.self ≡ with_store v c.args.pass w.locks marks named c.args.id c.args.slot c.args.target c.into.result w.owed change =
    c.touch.ensures.touched ∙ ap (λ (y : TablesView). let z : TablesView = record y { zeros = marks; references = named; round = touched_by_record y.round (Some logged) } in z) (noted-view vr w c.args.pass c.args.id _ noted) in
    subst (λ (x : TablesView). Does v x held new c.args.pass (plan.Store c.args.id c.args.slot c.args.target) (record { reply = reply.Done; logged = Some logged })) (sym is)
    (does-store v held c.args.pass new w.locks marks (names_in c.note.new.references) named c.args.id c.args.slot c.args.target c.into.result w.owed change noted.owed noted.locks c.requires.ready.in_range
    (λ cells agree. c.into.ensures ∙ slot-target cells c.args.id c.args.slot c.cell.result.now (c.cell.ensures.stored cells agree))
    (λ p. c.note.ensures.noted p ∙ named_more-same (names_in c.own_to_write.new.self.references) v.references c.args.pass change.old_target p (ap (λ (t : Table). names_in t p) c.own_to_write.ensures.references ∙ ap targets_of (c.reserve.ensures.same p)))
    (λ p. c.note-2.ensures.noted p)
    (subst (λ (z : List Bool). Changes held new z marks c.args.id c.args.slot c.args.target (λ cells. stored_change cells c.args.id c.args.slot c.args.target) change) noted.zeros c.store-change.ensures.changes))
