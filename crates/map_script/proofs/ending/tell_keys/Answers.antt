use Rattle.std.proofs.Common.{◌∙◌, ap, sym}
use Rattle.std.specs.Prelude.{length}
use Rattle.map_calls.specs.Output.{keys_line}
use Rattle.map_calls.specs.Maps.{MapState}
use Rattle.stored_map.specs.Stores.{view_of, leaving}
use Rattle.map_script.proofs.StoreLemmas.{keeps-same}
use Rattle.map_script.proofs.EndLemmas.{tells-end, printed-end, always}
use Rattle.map_script.proofs.ending.tell_keys.Goals as goal

pub returns-in-Ok-clause-same : goal.returns-in-Ok-clause-same
returns-in-Ok-clause-same g c = always c.tell.result _ c.in-Ok.ensures.same

pub returns-in-Ok-clause-collected : goal.returns-in-Ok-clause-collected
returns-in-Ok-clause-collected g c = always c.tell.result _ (c.in-Ok.ensures.room ∙ c.requires.collected ∙ ap (λ (m : MapState). m.free) (sym c.in-Ok.ensures.same))

pub returns-in-Ok-clause-goes : goal.returns-in-Ok-clause-goes
returns-in-Ok-clause-goes g c = always c.tell.result _ c.in-Ok.ensures.goes

pub returns-in-Ok-clause-printed : goal.returns-in-Ok-clause-printed
returns-in-Ok-clause-printed g c =
    printed-end c.tell.result _ _ c.keys_line.result.bytes (keys_line (length (view_of g.D.Disk.faults c.args.store.now).map.pairs)) (c.keys_line.ensures ∙ ap keys_line c.in-Ok.ensures.keys) c.tell.ensures.ok

pub returns-in-Ok-clause-stopped : goal.returns-in-Ok-clause-stopped
returns-in-Ok-clause-stopped g c =
    let text = c.keys_line.ensures ∙ ap keys_line c.in-Ok.ensures.keys in
    let room = c.in-Ok.ensures.room ∙ c.requires.collected ∙ ap (λ (m : MapState). m.free) (sym c.in-Ok.ensures.same) in
    tells-end c.tell.result (view_of g.D.Disk.faults c.args.store.now) (view_of g.D.Disk.faults c.keys.new.self) (leaving g.D.Disk.may_leave c.keys.new.self) _ _ c.keys_line.result.bytes _ _ text c.in-Ok.ensures.same room c.in-Ok.ensures.goes c.tell.ensures.err

pub returns-in-Err-clause-stopped : goal.returns-in-Err-clause-stopped
returns-in-Err-clause-stopped g c = (c.in-Err.ensures.failed, keeps-same (g.W.Sink.written c.args.out.now))
