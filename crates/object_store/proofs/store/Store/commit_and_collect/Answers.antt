use Rattle.std.proofs.Common.{subst}
use Rattle.object_store.specs.Handles.{StoreView, store_at}
use Rattle.object_store.specs.Steps.{Commits}
use Rattle.object_store.specs.Tended.{CommitsAndCollects}
use Rattle.object_store.proofs.TendedLaws.{collected}
use Rattle.object_store.proofs.store.Store.commit_and_collect.Goals as goal

pub returns-in-Ok-clause-done : goal.returns-in-Ok-clause-done
returns-in-Ok-clause-done g c =
    let u = store_at c.self.inside.tending c.self.inside.framed c.self.inside.table in
    let m = c.commit.new.self in
    let w = c.collect.new.self in
    (subst (λ (s : StoreView g.row.D.Denot). Commits s m → CommitsAndCollects s w) c.self.view_is (λ k. collected u m w c.collect.result k c.collect.ensures.collects c.collect.ensures.waiting c.collect.ensures.failed)) c.in-Ok.ensures.done
