use Rattle.std.proofs.Common.{subst}
use Rattle.object_store.specs.Handles.{StoreView, store_at}
use Rattle.object_store.proofs.UpkeepLaws.{CollectTold, collect_told}
use Rattle.object_store.proofs.store.Store.collect.Goals as goal

pub returns-clause-collects : goal.returns-clause-collects
returns-clause-collects g c =
    let w = c.collect.new.below in
    let told = collect_told {n = c.self.inside.tending} c.args.steps c.self.inside.framed c.end_open.new.below w c.self.inside.table c.collect.result c.end_open.ensures c.collect.ensures.makes c.collect.ensures.waiting c.collect.ensures.exact c.collect.ensures.short c.collect.ensures.reach in
    (subst (λ (s : StoreView g.row.D.Denot). CollectTold c.args.steps c.collect.result s (store_at c.self.inside.tending w c.self.inside.table)) c.self.view_is told).collects

pub returns-clause-failed : goal.returns-clause-failed
returns-clause-failed g c =
    let w = c.collect.new.below in
    let told = collect_told {n = c.self.inside.tending} c.args.steps c.self.inside.framed c.end_open.new.below w c.self.inside.table c.collect.result c.end_open.ensures c.collect.ensures.makes c.collect.ensures.waiting c.collect.ensures.exact c.collect.ensures.short c.collect.ensures.reach in
    (subst (λ (s : StoreView g.row.D.Denot). CollectTold c.args.steps c.collect.result s (store_at c.self.inside.tending w c.self.inside.table)) c.self.view_is told).failed
