use Rattle.std.proofs.Common.{◌∙◌}
use Rattle.map_calls.specs.Output.{list_line}
use Rattle.map_script.proofs.StoreLemmas.{keeps-same}
use Rattle.map_script.proofs.ListLemmas.{written-as, stops-list}
use Rattle.map_script.proofs.answering.tell_list.Goals as goal

pub returns-in-Ok-clause-ok : goal.returns-in-Ok-clause-ok
returns-in-Ok-clause-ok g c = written-as c.print.result _ _ c.as_bytes.result.now (list_line c.args.pairs.now) (c.as_bytes.ensures.value ∙ c.in-Ok.ensures) c.print.ensures.ok

pub returns-in-Ok-clause-stopped : goal.returns-in-Ok-clause-stopped
returns-in-Ok-clause-stopped g c = stops-list c.print.result _ _ c.as_bytes.result.now c.args.pairs.now _ _ (c.as_bytes.ensures.value ∙ c.in-Ok.ensures) c.print.ensures.err

pub returns-in-Err-clause-stopped : goal.returns-in-Err-clause-stopped
returns-in-Err-clause-stopped g c = keeps-same (g.W.Sink.written c.args.out.now)
