use Rattle.std.proofs.Common.{subst}
use Rattle.object_store.specs.Handles.{StoreView, store_at}
use Rattle.object_store.specs.Steps.{Forgets}
use Rattle.object_store.proofs.KeptLaws.{forgets_of}
use Rattle.object_store.proofs.store.Store.release.Goals as goal

pub returns-clause-forgets : goal.returns-clause-forgets
returns-clause-forgets g c =
    let told = c.forget.ensures in
    subst (λ (s : StoreView g.row.D.Denot). Forgets c.args.object s (store_at c.self.inside.tending c.self.inside.framed c.forget.new.self)) c.self.view_is
    (forgets_of {n = c.self.inside.tending} c.self.inside.framed c.self.inside.table c.forget.new.self c.args.object told.gone told.others told.only told.rooted told.small)
