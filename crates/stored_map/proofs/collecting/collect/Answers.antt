use Rattle.std.proofs.Common.{Ok, ap, ◌∙◌}
use Rattle.stored_map.proofs.CollectLaws.{collects_none, collects_then}
use Rattle.stored_map.proofs.collecting.collect.Goals as goal

pub steps-init : goal.steps-init
steps-init g c = record { quiet = c.requires.quiet; collects = collects_none c.args.store.now c.requires.quiet }

pub steps-preserved : goal.steps-preserved
steps-preserved g c =
    let e = c.in-Ok-true.ensures in
    record { quiet = e.quiet; collects = collects_then c.args.store.now c.steps.store c.collect_once.new.store c.steps.invariant.collects e.collects }

pub steps-smaller : goal.steps-smaller
steps-smaller g c = c.collect_once.ensures.fewer (c.in-Ok-true.is ∙ ap Ok c.in-Ok-true.field-0-test)

pub returns-in-Ok-false-clause-collects : goal.returns-in-Ok-false-clause-collects
returns-in-Ok-false-clause-collects g c = collects_then c.args.store.now c.steps.store c.collect_once.new.store c.steps.invariant.collects c.in-Ok-false.ensures.collects

pub returns-in-Ok-false-clause-exact : goal.returns-in-Ok-false-clause-exact
returns-in-Ok-false-clause-exact g c = c.collect_once.ensures.exact (c.in-Ok-false.is ∙ ap Ok c.in-Ok-false.field-0-test)

pub returns-in-Err-clause-collects : goal.returns-in-Err-clause-collects
returns-in-Err-clause-collects g c = collects_then c.args.store.now c.steps.store c.collect_once.new.store c.steps.invariant.collects c.in-Err.ensures.collects
