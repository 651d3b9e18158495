use Rattle.std.proofs.Common.{Result, Ok, Err, refl, ap, ◌∙◌}
use Rattle.shared_store.specs.Calls.{found_by_collecting}
use Rattle.client_pass.specs.Workings.{end_of_collecting}
use Rattle.client_pass.proofs.Events.{collects-step, did-longer, deleted-longer, alone-never, idle-collected, collecting-ends}
use Rattle.client_pass.proofs.collecting.collect.Goals as goal

pub returns-in-Ok-Did-clause-collects : goal.returns-in-Ok-Did-clause-collects
returns-in-Ok-Did-clause-collects g c = collects-step c.args.main.now.view c.collect_step.new.pass.view c.collect_step.result c.collect_step.ensures.knows c.collect_step.ensures.act

pub returns-in-Ok-Idle-clause-collects : goal.returns-in-Ok-Idle-clause-collects
returns-in-Ok-Idle-clause-collects g c = collects-step c.args.main.now.view c.collect_step.new.pass.view c.collect_step.result c.collect_step.ensures.knows c.collect_step.ensures.act

pub returns-in-Ok-TraceFull-clause-collects : goal.returns-in-Ok-TraceFull-clause-collects
returns-in-Ok-TraceFull-clause-collects g c = collects-step c.args.main.now.view c.collect_step.new.pass.view c.collect_step.result c.collect_step.ensures.knows c.collect_step.ensures.act

pub returns-in-Ok-Memory-clause-collects : goal.returns-in-Ok-Memory-clause-collects
returns-in-Ok-Memory-clause-collects g c = collects-step c.args.main.now.view c.collect_step.new.pass.view c.collect_step.result c.collect_step.ensures.knows c.collect_step.ensures.act

pub returns-in-Err-Stopped-clause-collects : goal.returns-in-Err-Stopped-clause-collects
returns-in-Err-Stopped-clause-collects g c = collects-step c.args.main.now.view c.collect_step.new.pass.view c.collect_step.result c.collect_step.ensures.knows c.collect_step.ensures.act

pub returns-in-Err-LogFull-clause-collects : goal.returns-in-Err-LogFull-clause-collects
returns-in-Err-LogFull-clause-collects g c = collects-step c.args.main.now.view c.collect_step.new.pass.view c.collect_step.result c.collect_step.ensures.knows c.collect_step.ensures.act

pub returns-in-Ok-TraceFull-clause-err : goal.returns-in-Ok-TraceFull-clause-err
returns-in-Ok-TraceFull-clause-err g c =
    let is = c.in-Ok-TraceFull.is ∙ ap Ok c.in-Ok-TraceFull.field-0-is in
    collecting-ends g.row.D.Denot c.args.main.now.view c.collect_step.new.pass.view c.collect_step.result _ (ap end_of_collecting is) refl (ap found_by_collecting is) c.collect_step.ensures.knows c.collect_step.ensures.made

pub returns-in-Ok-Memory-clause-err : goal.returns-in-Ok-Memory-clause-err
returns-in-Ok-Memory-clause-err g c =
    let is = c.in-Ok-Memory.is ∙ ap Ok c.in-Ok-Memory.field-0-is in
    collecting-ends g.row.D.Denot c.args.main.now.view c.collect_step.new.pass.view c.collect_step.result _ (ap end_of_collecting is) tt (ap found_by_collecting is) c.collect_step.ensures.knows c.collect_step.ensures.made

pub returns-in-Err-LogFull-clause-err : goal.returns-in-Err-LogFull-clause-err
returns-in-Err-LogFull-clause-err g c =
    let is = c.in-Err-LogFull.is ∙ ap Err c.in-Err-LogFull.field-0-is in
    collecting-ends g.row.D.Denot c.args.main.now.view c.collect_step.new.pass.view c.collect_step.result _ (ap end_of_collecting is) refl (ap found_by_collecting is) c.collect_step.ensures.knows c.collect_step.ensures.made

pub returns-in-Err-Stopped-clause-err : goal.returns-in-Err-Stopped-clause-err
returns-in-Err-Stopped-clause-err g c =
    let is = c.in-Err-Stopped.is ∙ ap Err c.in-Err-Stopped.field-0-is in
    collecting-ends g.row.D.Denot c.args.main.now.view c.collect_step.new.pass.view c.collect_step.result _ (ap end_of_collecting is) refl (ap found_by_collecting is) c.collect_step.ensures.knows c.collect_step.ensures.made

pub returns-in-Ok-Did-clause-longer : goal.returns-in-Ok-Did-clause-longer
returns-in-Ok-Did-clause-longer g c told =
    did-longer c.args.main.now.view c.collect_step.new.pass.view c.collect_step.result c.in-Ok-Did.field-0 _ _ c.in-Ok-Did.is c.in-Ok-Did.field-0-is c.collect_step.ensures.knows

pub returns-in-Ok-Deleted-clause-collects : goal.returns-in-Ok-Deleted-clause-collects
returns-in-Ok-Deleted-clause-collects g c = collects-step c.args.main.now.view c.collect_step.new.pass.view c.collect_step.result c.collect_step.ensures.knows c.collect_step.ensures.act

pub returns-in-Ok-Deleted-clause-longer : goal.returns-in-Ok-Deleted-clause-longer
returns-in-Ok-Deleted-clause-longer g c told =
    deleted-longer c.args.main.now.view c.collect_step.new.pass.view c.collect_step.result c.in-Ok-Deleted.field-0 _ _ c.in-Ok-Deleted.is c.in-Ok-Deleted.field-0-is c.collect_step.ensures.knows

pub returns-in-Err-Again-clause-never_again : goal.returns-in-Err-Again-clause-never_again
returns-in-Err-Again-clause-never_again g c alone told = alone-never c.args.main.now.view c.collect_step.new.pass.view c.collect_step.result _ _ _ alone c.in-Err-Again.is c.in-Err-Again.field-0-is c.collect_step.ensures.knows

pub returns-in-Ok-Idle-clause-idle : goal.returns-in-Ok-Idle-clause-idle
returns-in-Ok-Idle-clause-idle g c told =
    idle-collected g.row.D.Denot c.args.main.now.view c.collect_step.new.pass.view c.collect_step.result c.in-Ok-Idle.field-0 c.in-Ok-Idle.is c.in-Ok-Idle.field-0-is c.collect_step.ensures.knows c.collect_step.ensures.made

pub returns-in-Err-Again-clause-collects : goal.returns-in-Err-Again-clause-collects
returns-in-Err-Again-clause-collects g c = collects-step c.args.main.now.view c.collect_step.new.pass.view c.collect_step.result c.collect_step.ensures.knows c.collect_step.ensures.act
