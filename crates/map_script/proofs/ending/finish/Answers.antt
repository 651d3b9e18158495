use Rattle.std.proofs.lemmas.Result.{IfErr-weaker}
use Rattle.stored_map.specs.Stores.{view_of, leaving}
use Rattle.map_script.proofs.StoreLemmas.{keeps-same}
use Rattle.map_script.proofs.EndLemmas.{stops-end-after, same-after, printed-after}
use Rattle.map_script.proofs.ending.finish.Goals as goal

pub returns-in-Ok-clause-same : goal.returns-in-Ok-clause-same
returns-in-Ok-clause-same g c =
    let view = view_of g.D.Disk.faults in
    same-after c.tell_keys.result (view c.args.store.now) (view c.collect.new.self) (view c.tell_keys.new.store) c.in-Ok.ensures.same c.tell_keys.ensures.same

pub returns-in-Ok-clause-printed : goal.returns-in-Ok-clause-printed
returns-in-Ok-clause-printed g c =
    let view = view_of g.D.Disk.faults in
    printed-after c.tell_keys.result (view c.args.store.now) (view c.collect.new.self) _ _ c.in-Ok.ensures.same c.tell_keys.ensures.printed

pub returns-in-Ok-clause-stopped : goal.returns-in-Ok-clause-stopped
returns-in-Ok-clause-stopped g c =
    let view = view_of g.D.Disk.faults in
    IfErr-weaker c.tell_keys.result _ _ (λ s h. stops-end-after s (view c.args.store.now) (view c.collect.new.self) (view c.tell_keys.new.store) (leaving g.D.Disk.may_leave c.tell_keys.new.store) _ _ c.in-Ok.ensures.same c.in-Ok.ensures.later h) c.tell_keys.ensures.stopped

pub returns-in-Err-clause-stopped : goal.returns-in-Err-clause-stopped
returns-in-Err-clause-stopped g c = (c.in-Err.ensures.failed, keeps-same (g.W.Sink.written c.args.out.now))
