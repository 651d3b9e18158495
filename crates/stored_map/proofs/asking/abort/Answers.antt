use Rattle.std.proofs.Common.{rules}
use Rattle.stored_map.proofs.AbortLaws.{one_active, stands_first, step_back, aborted}
use Rattle.stored_map.proofs.AskLaws.{none_failed}
use Rattle.stored_map.proofs.asking.abort.Goals as goal

pub steps-init : goal.steps-init
steps-init g c = record { stands = stands_first c.args.store.now c.requires.client.running c.requires.client.alone }

pub abort_step-requires-after_bounds : goal.abort_step-requires-after_bounds
abort_step-requires-after_bounds g c κs within = (search rules, one_active _ c.steps.invariant.stands.one)

pub steps-preserved : goal.steps-preserved
steps-preserved g c =
    let e = c.in-Ok-Undone.ensures in
    record { stands = (step_back c.args.store.now c.steps.store c.abort_step.new.self c.in-Ok-Undone.field-0 c.steps.invariant.stands e.does c.in-Ok-Undone.field-0-is e.untouched e.goes_on).stands }

pub steps-smaller : goal.steps-smaller
steps-smaller g c =
    let e = c.in-Ok-Undone.ensures in
    (step_back c.args.store.now c.steps.store c.abort_step.new.self c.in-Ok-Undone.field-0 c.steps.invariant.stands e.does c.in-Ok-Undone.field-0-is e.untouched e.goes_on).fewer

pub unreachable-requires : goal.unreachable-requires
unreachable-requires g c = none_failed _ c.steps.invariant.stands.stays.running c.in-Err.ensures.only_stopped

pub returns-in-Ok-Ended-clause-stays : goal.returns-in-Ok-Ended-clause-stays
returns-in-Ok-Ended-clause-stays g c =
    let e = c.in-Ok-Ended.ensures in
    (aborted c.args.store.now c.steps.store c.abort_step.new.self c.in-Ok-Ended.field-0 c.steps.invariant.stands e.does c.in-Ok-Ended.field-0-is e.untouched e.goes_on).stays

pub returns-in-Ok-Ended-clause-marks : goal.returns-in-Ok-Ended-clause-marks
returns-in-Ok-Ended-clause-marks g c =
    let e = c.in-Ok-Ended.ensures in
    (aborted c.args.store.now c.steps.store c.abort_step.new.self c.in-Ok-Ended.field-0 c.steps.invariant.stands e.does c.in-Ok-Ended.field-0-is e.untouched e.goes_on).marks

pub returns-in-Ok-Ended-clause-none : goal.returns-in-Ok-Ended-clause-none
returns-in-Ok-Ended-clause-none g c =
    let e = c.in-Ok-Ended.ensures in
    (aborted c.args.store.now c.steps.store c.abort_step.new.self c.in-Ok-Ended.field-0 c.steps.invariant.stands e.does c.in-Ok-Ended.field-0-is e.untouched e.goes_on).none

pub returns-in-Ok-Ended-clause-free : goal.returns-in-Ok-Ended-clause-free
returns-in-Ok-Ended-clause-free g c =
    let e = c.in-Ok-Ended.ensures in
    (aborted c.args.store.now c.steps.store c.abort_step.new.self c.in-Ok-Ended.field-0 c.steps.invariant.stands e.does c.in-Ok-Ended.field-0-is e.untouched e.goes_on).free
