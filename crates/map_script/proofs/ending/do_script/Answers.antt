use Rattle.std.proofs.Common.{inl}
use Rattle.stored_map.specs.Stores.{view_of, leaving, Tell}
use Rattle.map_script.proofs.EndLemmas.{end-done, end-stopped, end-read}
use Rattle.map_script.proofs.ending.do_script.Goals as goal

pub returns-in-Ok-clause-ok : goal.returns-in-Ok-clause-ok
returns-in-Ok-clause-ok g c =
    let view = view_of g.D.Disk.faults in
    let e = c.finish.ensures in
    end-done (Tell g.D.Disk.content) _ _ (view c.args.store.now) (view c.do_lines.new.store) (leaving g.D.Disk.may_leave c.do_lines.new.store) _ _ c.in-Ok.ensures.ok c.finish.result (view c.finish.new.store) (leaving g.D.Disk.may_leave c.finish.new.store) _ e.same e.collected e.goes e.printed

pub returns-in-Ok-clause-stopped : goal.returns-in-Ok-clause-stopped
returns-in-Ok-clause-stopped g c =
    let view = view_of g.D.Disk.faults in
    end-stopped (Tell g.D.Disk.content) _ _ (view c.args.store.now) (view c.do_lines.new.store) (leaving g.D.Disk.may_leave c.do_lines.new.store) _ _ c.in-Ok.ensures.ok c.finish.result (view c.finish.new.store) (leaving g.D.Disk.may_leave c.finish.new.store) _ c.in-Ok.ensures.later c.finish.ensures.stopped

pub returns-in-Ok-clause-read : goal.returns-in-Ok-clause-read
returns-in-Ok-clause-read g c =
    let view = view_of g.D.Disk.faults in
    λ is. end-read (Tell g.D.Disk.content) _ _ (view c.args.store.now) (view c.do_lines.new.store) (leaving g.D.Disk.may_leave c.do_lines.new.store) _ _ c.in-Ok.ensures.ok c.finish.result (view c.finish.new.store) (leaving g.D.Disk.may_leave c.finish.new.store) _ _ c.finish.ensures.stopped is

pub returns-in-Err-clause-stopped : goal.returns-in-Err-clause-stopped
returns-in-Err-clause-stopped g c = inl c.in-Err.ensures.stopped
