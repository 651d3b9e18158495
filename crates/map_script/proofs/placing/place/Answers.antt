use Rattle.std.proofs.lemmas.Result.{IfOk-weaker, IfErr-weaker}
use Rattle.map_calls.specs.Maps.{Puts}
use Rattle.stored_map.specs.Stores.{view_of, leaving}
use Rattle.map_script.proofs.StoreLemmas.{fails-after, places-after}
use Rattle.map_script.proofs.placing.place.Goals as goal

pub returns-in-Ok-NoRoom-clause-placed : goal.returns-in-Ok-NoRoom-clause-placed
returns-in-Ok-NoRoom-clause-placed g c =
    let view = view_of g.D.Disk.faults in
    let tried = rw c.in-Ok-NoRoom.field-0-is at c.in-Ok-NoRoom.ensures.put in
    IfOk-weaker c.place_after_collection.result _ _ (λ put h. places-after c.args.key c.args.value put (view c.args.store.now) (view c.put.new.self) (view c.place_after_collection.new.store) tried.1 h) c.place_after_collection.ensures.placed

pub returns-in-Ok-NoRoom-clause-failed : goal.returns-in-Ok-NoRoom-clause-failed
returns-in-Ok-NoRoom-clause-failed g c =
    let view = view_of g.D.Disk.faults in
    let tried = rw c.in-Ok-NoRoom.field-0-is at c.in-Ok-NoRoom.ensures.put in
    IfErr-weaker c.place_after_collection.result _ _ (λ f h. fails-after f (view c.args.store.now) (view c.put.new.self) (view c.place_after_collection.new.store) (leaving g.D.Disk.may_leave c.place_after_collection.new.store) (Puts c.args.key c.args.value) tried.1 c.in-Ok-NoRoom.ensures.later h) c.place_after_collection.ensures.failed
