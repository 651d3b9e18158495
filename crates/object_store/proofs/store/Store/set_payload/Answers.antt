use Rattle.std.proofs.Common.{◌≡◌, true, sym, subst}
use Rattle.plain_model.specs.declared.calls.Call.TheVariants as call
use Rattle.plain_model.specs.declared.write.Place.TheVariants.{Payload}
use Rattle.plain_model.specs.Graphs.{after_set}
use Rattle.object_store.specs.declared.error.StoreError.{StoreError}
use Rattle.object_store.specs.Seen.{state_of, graph_in}
use Rattle.object_store.specs.Handles.{StoreView, store_at, is_live}
use Rattle.object_store.specs.Steps.{IsObjectError}
use Rattle.object_store.proofs.KeptLaws.{WriteTold, live_open, open_written, write_told, object_error}
use Rattle.object_store.proofs.store.Store.set_payload.Goals as goal

pub invariant_of-self : goal.invariant_of-self
invariant_of-self g c =
    let l = live_open c.self.inside.framed c.self.inside.table c.self.invariant (subst (λ (s : StoreView g.row.D.Denot). is_live s ≡ true) (sym c.self.view_is) c.requires.live) in
    open_written c.self.inside.framed c.set_pay.new.below c.self.inside.table (call.SetPay c.args.object.register c.args.value) (after_set c.args.object.id Payload c.args.value (graph_in (state_of c.self.inside.framed))) c.set_pay.result l c.set_pay.ensures.live c.set_pay.ensures.writes c.set_pay.ensures.short

pub returns : goal.returns
returns g c =
    let v = c.self.inside.framed in
    let w = c.set_pay.new.below in
    let held = c.self.inside.table in
    let h = c.args.object in
    let k = call.SetPay h.register c.args.value in
    let holds = c.holds.ensures.holds.0 c.if-not-holds.false in
    let E : StoreView g.row.D.Denot → StoreError → Type 0 = λ s why. IsObjectError h k s why in
    let told = write_told {n = c.self.inside.tending} h Payload c.args.value k E v w held c.set_pay.result c.set_pay.ensures.live c.set_pay.ensures.writes c.set_pay.ensures.short (λ why short. object_error h k (store_at c.self.inside.tending v held) why holds short) in
    let t = subst (λ (s : StoreView g.row.D.Denot). WriteTold h Payload c.args.value k E c.set_pay.result s (store_at c.self.inside.tending w held)) c.self.view_is told in
    record { live = t.live; sets = t.sets; refused = t.refused; keeps = t.keeps }
