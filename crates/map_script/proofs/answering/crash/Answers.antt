use Rattle.std.proofs.Common.{◌∙◌, ap, refl}
use Rattle.map_calls.specs.declared.grammar.Line.TheVariants.{Crash}
use Rattle.map_calls.specs.Output.{reopened_line}
use Rattle.stored_map.specs.Stores.{view_of, leaving, Tell}
use Rattle.map_script.proofs.StoreLemmas.{keeps-same}
use Rattle.map_script.proofs.AnswerLemmas.{answers, stops-writing}
use Rattle.map_script.proofs.answering.crash.Goals as goal

pub returns-in-Ok-clause-ok : goal.returns-in-Ok-clause-ok
returns-in-Ok-clause-ok g c =
    let text = c.reopened_line.ensures ∙ ap reopened_line c.in-Ok.ensures.keys in
    answers (Tell g.D.Disk.content) c.tell.result (Crash c.args.pick) (view_of g.D.Disk.faults c.args.store.now) (view_of g.D.Disk.faults c.lose_power.new.self) (leaving g.D.Disk.may_leave c.lose_power.new.self) _ _ c.reopened_line.result.bytes (c.in-Ok.ensures.same, text) c.in-Ok.ensures.goes c.tell.ensures.ok

pub returns-in-Ok-clause-stopped : goal.returns-in-Ok-clause-stopped
returns-in-Ok-clause-stopped g c =
    let text = c.reopened_line.ensures ∙ ap reopened_line c.in-Ok.ensures.keys in
    stops-writing (Tell g.D.Disk.content) c.tell.result (Crash c.args.pick) (view_of g.D.Disk.faults c.args.store.now) (view_of g.D.Disk.faults c.lose_power.new.self) (leaving g.D.Disk.may_leave c.lose_power.new.self) _ _ c.reopened_line.result.bytes _ _ (c.in-Ok.ensures.same, text) c.in-Ok.ensures.goes c.tell.ensures.err

pub returns-in-Err-clause-stopped : goal.returns-in-Err-clause-stopped
returns-in-Err-clause-stopped g c = ((c.args.pick, refl), c.in-Err.ensures.shut, keeps-same (g.W.Sink.written c.args.out.now))
