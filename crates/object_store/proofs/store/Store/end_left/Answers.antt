use Rattle.std.proofs.Common.{refl, subst}
use Rattle.object_store.specs.Handles.{StoreView, store_at}
use Rattle.object_store.specs.Tended.{EndsLeft}
use Rattle.object_store.proofs.StartLaws.{kept_ended}
use Rattle.object_store.proofs.store.Store.end_left.Goals as goal

pub invariant_of-self : goal.invariant_of-self
invariant_of-self g c = kept_ended c.self.inside.framed c.end_open.new.below c.self.inside.table c.end_open.ensures

pub returns : goal.returns
returns g c =
    subst (λ (s : StoreView g.row.D.Denot). EndsLeft s (store_at c.self.inside.tending c.end_open.new.below c.self.inside.table)) c.self.view_is
    (record { ends = c.end_open.ensures; tending = refl })
