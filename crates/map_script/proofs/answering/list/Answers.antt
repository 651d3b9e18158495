use Rattle.std.proofs.Common.{◌∙◌, ap}
use Rattle.map_calls.specs.declared.grammar.Line.TheVariants.{List}
use Rattle.map_calls.specs.Output.{list_line}
use Rattle.stored_map.specs.Stores.{view_of, leaving, Tell}
use Rattle.map_script.proofs.StoreLemmas.{keeps-same}
use Rattle.map_script.proofs.AnswerLemmas.{answers}
use Rattle.map_script.proofs.ListLemmas.{list-stopped}
use Rattle.map_script.proofs.answering.list.Goals as goal

pub returns-clause-ok : goal.returns-clause-ok
returns-clause-ok g c =
    let text = ap list_line (c.as_slice.ensures.value ∙ c.in-Ok.ensures.pairs) in
    answers (Tell g.D.Disk.content) c.tell_list.result List (view_of g.D.Disk.faults c.args.store.now) (view_of g.D.Disk.faults c.list.new.self) (leaving g.D.Disk.may_leave c.list.new.self) _ _ (list_line c.as_slice.result.now) (c.in-Ok.ensures.same, text) c.in-Ok.ensures.goes c.tell_list.ensures.ok

pub returns-clause-stopped : goal.returns-clause-stopped
returns-clause-stopped g c =
    list-stopped (Tell g.D.Disk.content) c.tell_list.result (view_of g.D.Disk.faults c.args.store.now) (view_of g.D.Disk.faults c.list.new.self) (leaving g.D.Disk.may_leave c.list.new.self) _ _ c.as_slice.result.now (c.as_slice.ensures.value ∙ c.in-Ok.ensures.pairs) c.in-Ok.ensures.same c.in-Ok.ensures.goes c.tell_list.ensures.stopped

pub returns-in-Err-clause-stopped : goal.returns-in-Err-clause-stopped
returns-in-Err-clause-stopped g c = (c.in-Err.ensures.failed, keeps-same (g.W.Sink.written c.args.out.now))
