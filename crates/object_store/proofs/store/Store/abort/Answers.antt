use Rattle.std.proofs.Common.{◌≡◌, true, sym, subst}
use Rattle.object_store.specs.Handles.{StoreView, store_at, is_live}
use Rattle.object_store.specs.Steps.{Aborts}
use Rattle.object_store.proofs.KeptLaws.{live_open}
use Rattle.object_store.proofs.StartLaws.{kept_ended, aborts_of}
use Rattle.object_store.proofs.store.Store.abort.Goals as goal

pub invariant_of-self : goal.invariant_of-self
invariant_of-self g c = kept_ended c.self.inside.framed c.end_open.new.below c.self.inside.table c.end_open.ensures

pub returns : goal.returns
returns g c =
    let l = live_open c.self.inside.framed c.self.inside.table c.self.invariant (subst (λ (s : StoreView g.row.D.Denot). is_live s ≡ true) (sym c.self.view_is) c.requires.live) in
    subst (λ (s : StoreView g.row.D.Denot). Aborts s (store_at c.self.inside.tending c.end_open.new.below c.self.inside.table)) c.self.view_is
    (aborts_of {n = c.self.inside.tending} c.self.inside.framed c.end_open.new.below c.self.inside.table l.running c.end_open.ensures)
