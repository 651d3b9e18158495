use Rattle.std.proofs.Common.{◌≡◌, true, sym, subst}
use Rattle.object_store.specs.Handles.{StoreView, store_at, is_live}
use Rattle.object_store.proofs.KeptLaws.{PayloadTold, live_open, open_looked, payload_told}
use Rattle.object_store.proofs.store.Store.payload.Goals as goal

pub invariant_of-self : goal.invariant_of-self
invariant_of-self g c =
    let l = live_open c.self.inside.framed c.self.inside.table c.self.invariant (subst (λ (s : StoreView g.row.D.Denot). is_live s ≡ true) (sym c.self.view_is) c.requires.live) in
    open_looked c.args.object c.self.inside.framed c.get_pay.new.below c.self.inside.table c.get_pay.result l c.get_pay.ensures.live c.get_pay.ensures.looks c.get_pay.ensures.short

pub returns : goal.returns
returns g c =
    let told = payload_told {n = c.self.inside.tending} c.args.object c.self.inside.framed c.get_pay.new.below c.self.inside.table c.get_pay.result (c.holds.ensures.holds.0 c.if-not-holds.false) c.get_pay.ensures.live c.get_pay.ensures.looks c.get_pay.ensures.short in
    let t = subst (λ (s : StoreView g.row.D.Denot). PayloadTold c.args.object c.get_pay.result s (store_at c.self.inside.tending c.get_pay.new.below c.self.inside.table)) c.self.view_is told in
    record { live = t.live; shows = t.shows; refused = t.refused; keeps = t.keeps }
