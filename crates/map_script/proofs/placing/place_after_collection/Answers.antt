use Rattle.std.proofs.lemmas.Result.{IfOk-weaker, IfErr-weaker}
use Rattle.map_calls.specs.Maps.{Puts}
use Rattle.stored_map.specs.Stores.{view_of, leaving}
use Rattle.map_script.proofs.StoreLemmas.{fails-after, fails-kept, places-again}
use Rattle.map_script.proofs.placing.place_after_collection.Goals as goal

pub returns-in-Ok-clause-placed : goal.returns-in-Ok-clause-placed
returns-in-Ok-clause-placed g c =
    let view = view_of g.D.Disk.faults in
    IfOk-weaker c.put.result _ _ (λ put h. places-again c.args.key c.args.value put (view c.args.store.now) (view c.collect.new.self) (view c.put.new.self) c.in-Ok.ensures.same c.in-Ok.ensures.room h) c.put.ensures.put

pub returns-in-Ok-clause-failed : goal.returns-in-Ok-clause-failed
returns-in-Ok-clause-failed g c =
    let view = view_of g.D.Disk.faults in
    IfErr-weaker c.put.result _ _ (λ f h. fails-after f (view c.args.store.now) (view c.collect.new.self) (view c.put.new.self) (leaving g.D.Disk.may_leave c.put.new.self) (Puts c.args.key c.args.value) c.in-Ok.ensures.same c.in-Ok.ensures.later h) c.put.ensures.failed

pub returns-in-Err-clause-failed : goal.returns-in-Err-clause-failed
returns-in-Err-clause-failed g c =
    let view = view_of g.D.Disk.faults in
    fails-kept c.in-Err.failure (view c.args.store.now) (view c.collect.new.self) (leaving g.D.Disk.may_leave c.collect.new.self) (Puts c.args.key c.args.value (view c.args.store.now).map) c.in-Err.ensures.failed
