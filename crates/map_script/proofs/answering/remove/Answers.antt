use Rattle.std.proofs.Common.{◌∙◌, ap}
use Rattle.map_calls.specs.declared.grammar.Line.TheVariants.{Delete}
use Rattle.map_calls.specs.Output.{deleted_line}
use Rattle.stored_map.specs.Stores.{view_of, leaving, Tell}
use Rattle.map_script.proofs.StoreLemmas.{keeps-same}
use Rattle.map_script.proofs.AnswerLemmas.{answers, stops-writing}
use Rattle.map_script.proofs.answering.remove.Goals as goal

pub returns-in-Ok-clause-ok : goal.returns-in-Ok-clause-ok
returns-in-Ok-clause-ok g c =
    let text = c.deleted_line.ensures ∙ ap deleted_line c.in-Ok.ensures.value in
    answers (Tell g.D.Disk.content) c.tell.result (Delete c.args.key) (view_of g.D.Disk.faults c.args.store.now) (view_of g.D.Disk.faults c.remove.new.self) (leaving g.D.Disk.may_leave c.remove.new.self) _ _ c.deleted_line.result.bytes (c.in-Ok.ensures.removed, text) c.in-Ok.ensures.goes c.tell.ensures.ok

pub returns-in-Ok-clause-stopped : goal.returns-in-Ok-clause-stopped
returns-in-Ok-clause-stopped g c =
    let text = c.deleted_line.ensures ∙ ap deleted_line c.in-Ok.ensures.value in
    stops-writing (Tell g.D.Disk.content) c.tell.result (Delete c.args.key) (view_of g.D.Disk.faults c.args.store.now) (view_of g.D.Disk.faults c.remove.new.self) (leaving g.D.Disk.may_leave c.remove.new.self) _ _ c.deleted_line.result.bytes _ _ (c.in-Ok.ensures.removed, text) c.in-Ok.ensures.goes c.tell.ensures.err

pub returns-in-Err-clause-stopped : goal.returns-in-Err-clause-stopped
returns-in-Err-clause-stopped g c = (c.in-Err.ensures.failed, keeps-same (g.W.Sink.written c.args.out.now))
