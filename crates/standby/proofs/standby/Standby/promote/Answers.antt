use Rattle.std.proofs.Common.{refl}
use Rattle.standby.specs.declared.refusals.PromoteRefusal.TheVariants.{Disk, Unsound, NoBase}
use Rattle.standby.proofs.Results.{same_error}
use Rattle.standby.proofs.MadeDisks.{promoted_to, while_made, some_promotion, untouched, no_call_cause, unsound_at}
use Rattle.standby.proofs.standby.Standby.promote.Goals as goal

pub returns-in-Err-clause-moments : goal.returns-in-Err-clause-moments
returns-in-Err-clause-moments g c = λ bytes f. untouched g.row.SLOTS bytes g.D.Disk.may_leave g.D.Disk.moment g.D.Disk.left_since g.D.Disk.only_now c.args.disk

pub returns-in-Err-clause-unsound : goal.returns-in-Err-clause-unsound
returns-in-Err-clause-unsound g c = λ bytes id rule f is. absurd (c.in-Err.ensures.refusals (Unsound id rule) (same_error c.in-Err.refusal (Unsound id rule) is))

pub returns-in-Err-clause-failed : goal.returns-in-Err-clause-failed
returns-in-Err-clause-failed g c = λ bytes f is. absurd (c.in-Err.ensures.refusals Disk (same_error c.in-Err.refusal Disk is))

pub returns-in-Err-clause-cause : goal.returns-in-Err-clause-cause
returns-in-Err-clause-cause g c = no_call_cause (g.D.Disk.faults c.args.disk) c.in-Err.refusal (λ is. c.in-Err.ensures.refusals Disk (same_error c.in-Err.refusal Disk is))

pub returns-in-Err-settle-clause-moments : goal.returns-in-Err-settle-clause-moments
returns-in-Err-settle-clause-moments g c = λ bytes f. untouched g.row.SLOTS bytes g.D.Disk.may_leave g.D.Disk.moment g.D.Disk.left_since g.D.Disk.only_now c.args.disk

pub returns-in-Err-settle-clause-unsound : goal.returns-in-Err-settle-clause-unsound
returns-in-Err-settle-clause-unsound g c =
    λ bytes id rule f is.
    unsound_at g.row.SLOTS bytes _ c.in-Ok.replay id rule (c.in-Ok.ensures.leads bytes f) (c.in-Err-settle.ensures.unsound id rule (same_error c.in-Err-settle.refusal (Unsound id rule) is))

pub returns-in-Err-settle-clause-base : goal.returns-in-Err-settle-clause-base
returns-in-Err-settle-clause-base g c = λ bytes len f is. absurd (c.in-Err-settle.ensures.refusals (NoBase len) (same_error c.in-Err-settle.refusal (NoBase len) is))

pub returns-in-Err-settle-clause-failed : goal.returns-in-Err-settle-clause-failed
returns-in-Err-settle-clause-failed g c = λ bytes f is. absurd (c.in-Err-settle.ensures.refusals Disk (same_error c.in-Err-settle.refusal Disk is))

pub returns-in-Err-settle-clause-cause : goal.returns-in-Err-settle-clause-cause
returns-in-Err-settle-clause-cause g c = no_call_cause (g.D.Disk.faults c.args.disk) c.in-Err-settle.refusal (λ is. c.in-Err-settle.ensures.refusals Disk (same_error c.in-Err-settle.refusal Disk is))

pub returns-in-Ok-init_with-clause-promoted : goal.returns-in-Ok-init_with-clause-promoted
returns-in-Ok-init_with-clause-promoted g c =
    λ bytes f.
    promoted_to {slots = g.row.SLOTS} c.into_base.ensures.slots c.in-Ok.replay c.in-Ok-settle.settled c.in-Ok-settle.ensures.settled bytes _ (c.in-Ok.ensures.leads bytes f)
    g.D.Disk.may_leave c.init_with.new.disk c.deref.result.now _ c.deref.ensures.value c.in-Ok-init_with.ensures.images c.batches-batches.ensures refl

pub returns-in-Ok-init_with-clause-moments : goal.returns-in-Ok-init_with-clause-moments
returns-in-Ok-init_with-clause-moments g c =
    λ bytes f.
    while_made {slots = g.row.SLOTS} c.into_base.ensures.slots c.in-Ok.replay c.in-Ok-settle.settled c.in-Ok-settle.ensures.settled bytes _ (c.in-Ok.ensures.leads bytes f)
    g.D.Disk.may_leave g.D.Disk.moment g.D.Disk.left_since c.args.disk c.init_with.new.disk c.deref.result.now c.deref.ensures.value c.init_with.ensures.moments

pub returns-in-Err-Disk-clause-moments : goal.returns-in-Err-Disk-clause-moments
returns-in-Err-Disk-clause-moments g c =
    λ bytes f.
    while_made {slots = g.row.SLOTS} c.into_base.ensures.slots c.in-Ok.replay c.in-Ok-settle.settled c.in-Ok-settle.ensures.settled bytes _ (c.in-Ok.ensures.leads bytes f)
    g.D.Disk.may_leave g.D.Disk.moment g.D.Disk.left_since c.args.disk c.init_with.new.disk c.deref.result.now c.deref.ensures.value c.init_with.ensures.moments

pub returns-in-Err-Disk-clause-failed : goal.returns-in-Err-Disk-clause-failed
returns-in-Err-Disk-clause-failed g c =
    λ bytes f is.
    some_promotion {slots = g.row.SLOTS} c.into_base.ensures.slots c.in-Ok.replay c.in-Ok-settle.settled c.in-Ok-settle.ensures.settled bytes _ (c.in-Ok.ensures.leads bytes f)
