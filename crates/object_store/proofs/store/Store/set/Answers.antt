use Rattle.std.proofs.Common.{◌≡◌, true, sym, subst}
use Rattle.plain_model.specs.declared.calls.Call.TheVariants as call
use Rattle.plain_model.specs.declared.write.Place.TheVariants.{Slot}
use Rattle.plain_model.specs.Graphs.{after_set}
use Rattle.object_store.specs.Seen.{state_of, graph_in}
use Rattle.object_store.specs.Handles.{StoreView, is_live}
use Rattle.object_store.specs.Steps.{id_of, register_of}
use Rattle.object_store.proofs.KeptLaws.{live_open, is_in_to, open_written}
use Rattle.object_store.proofs.store.Store.set.Goals as goal

pub store-requires-clause-held_to : goal.store-requires-clause-held_to
store-requires-clause-held_to g c κs within =
    let l = live_open c.self.inside.framed c.self.inside.table c.self.invariant (subst (λ (s : StoreView g.row.D.Denot). is_live s ≡ true) (sym c.self.view_is) c.requires.live) in
    is_in_to l c.args.to (c.holds_any.ensures.small c.if-not-holds_any.false) (c.holds_any.ensures.holds c.if-not-holds_any.false)

pub invariant_of-self : goal.invariant_of-self
invariant_of-self g c =
    let l = live_open c.self.inside.framed c.self.inside.table c.self.invariant (subst (λ (s : StoreView g.row.D.Denot). is_live s ≡ true) (sym c.self.view_is) c.requires.live) in
    open_written c.self.inside.framed c.store.new.below c.self.inside.table (call.Store c.args.object.register c.args.slot (register_of c.args.to)) (after_set c.args.object.id (Slot c.args.slot) (id_of c.args.to) (graph_in (state_of c.self.inside.framed))) c.store.result l c.store.ensures.live c.store.ensures.writes c.store.ensures.short
