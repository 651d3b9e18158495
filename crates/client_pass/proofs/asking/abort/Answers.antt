use Rattle.std.proofs.Common.{rules, Result, Err, refl, ap, ◌∙◌}
use Rattle.core_store.specs.declared.abort_step.AbortStep.{AbortStep}
use Rattle.shared_store.specs.declared.answers.StepRefusal.{StepRefusal}
use Rattle.shared_store.specs.Calls.{refused_by_step, refused_disk}
use Rattle.client_pass.specs.Attempts.{AreUndos}
use Rattle.client_pass.proofs.Makings.{makes-none}
use Rattle.client_pass.proofs.Asked.{undid, ended, step-again, step-stopped, stopped-ends, undos-behind, undos-truth, abort-done}
use Rattle.client_pass.proofs.asking.abort.Goals as goal

pub steps-init : goal.steps-init
steps-init g c = (search rules, search rules, c.requires.of, makes-none c.args.pass.now.view AreUndos tt, refl)

pub abort_step-requires-after_bounds : goal.abort_step-requires-after_bounds
abort_step-requires-after_bounds g c κs within =
    let i = c.steps.invariant in
    (search rules, (search rules, (i.2, undos-truth c.args.pass.now.view c.steps.pass.view i.3 ∙ c.requires.active)))

pub steps-preserved-in-Ok-Undone : goal.steps-preserved-in-Ok-Undone
steps-preserved-in-Ok-Undone g c =
    let i = c.steps.invariant in
    let more = undid c.steps.pass.view c.abort_step.new.pass.view c.abort_step.result c.in-Ok-Undone.field-0 c.in-Ok-Undone.is c.in-Ok-Undone.field-0-is c.abort_step.ensures.knows in
    let same = ap (λ (s : Result AbortStep StepRefusal). refused_by_step s c.steps.pass.refused) c.in-Ok-Undone.is in
    (search rules, search rules, c.abort_step.ensures.of, undos-behind c.args.pass.now.view c.steps.pass.view c.abort_step.new.pass.view i.3 more, c.abort_step.ensures.refused ∙ (same ∙ i.4))

pub returns-in-Ok-Ended-clause-ok : goal.returns-in-Ok-Ended-clause-ok
returns-in-Ok-Ended-clause-ok g c =
    let i = c.steps.invariant in
    let more = ended c.steps.pass.view c.abort_step.new.pass.view c.abort_step.result c.in-Ok-Ended.field-0 c.in-Ok-Ended.is c.in-Ok-Ended.field-0-is c.abort_step.ensures.knows in
    (refl, abort-done c.args.pass.now.view c.steps.pass.view c.abort_step.new.pass.view i.3 more)

pub returns-in-Ok-Ended-clause-refused : goal.returns-in-Ok-Ended-clause-refused
returns-in-Ok-Ended-clause-refused g c =
    let i = c.steps.invariant in
    let same = ap (λ (s : Result AbortStep StepRefusal). refused_by_step s c.steps.pass.refused) c.in-Ok-Ended.is in
    c.abort_step.ensures.refused ∙ (same ∙ i.4)

pub steps-preserved : goal.steps-preserved
steps-preserved g c =
    let i = c.steps.invariant in
    let more = step-again c.steps.pass.view c.abort_step.new.pass.view c.abort_step.result c.in-Err-Again.field-0 c.in-Err-Again.field-0-0 c.in-Err-Again.field-0-1 c.in-Err-Again.is c.in-Err-Again.field-0-is c.abort_step.ensures.knows in
    let same = ap (λ (s : Result AbortStep StepRefusal). refused_by_step s c.steps.pass.refused) (c.in-Err-Again.is ∙ ap Err c.in-Err-Again.field-0-is) in
    (search rules, search rules, c.abort_step.ensures.of, undos-behind c.args.pass.now.view c.steps.pass.view c.abort_step.new.pass.view i.3 more, c.abort_step.ensures.refused ∙ (same ∙ i.4))

pub returns-in-Err-Stopped-clause-err : goal.returns-in-Err-Stopped-clause-err
returns-in-Err-Stopped-clause-err g c =
    let i = c.steps.invariant in
    let more = step-stopped c.steps.pass.view c.abort_step.new.pass.view c.abort_step.result c.in-Err-Stopped.field-0 c.in-Err-Stopped.faults c.in-Err-Stopped.is c.in-Err-Stopped.field-0-is c.abort_step.ensures.knows in
    let none = undos-behind c.args.pass.now.view c.steps.pass.view c.abort_step.new.pass.view i.3 more in
    (none, stopped-ends g.row.D.Denot g.D.Disk.content g.D.Disk.may_leave g.D.Disk.faults g.D.Disk.moment g.D.Disk.left_since c.steps.pass.view c.abort_step.new.pass.view c.abort_step.result c.in-Err-Stopped.field-0 c.in-Err-Stopped.faults c.in-Err-Stopped.is c.in-Err-Stopped.field-0-is c.abort_step.ensures.knows c.abort_step.ensures.made)

pub returns-in-Err-Stopped-clause-refused : goal.returns-in-Err-Stopped-clause-refused
returns-in-Err-Stopped-clause-refused g c =
    let i = c.steps.invariant in
    let same = ap (λ (s : Result AbortStep StepRefusal). refused_by_step s c.steps.pass.refused) (c.in-Err-Stopped.is ∙ ap Err c.in-Err-Stopped.field-0-is) in
    c.abort_step.ensures.refused ∙ (same ∙ ap refused_disk i.4)
