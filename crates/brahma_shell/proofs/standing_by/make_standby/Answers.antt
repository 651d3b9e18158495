use Rattle.std.proofs.Common.{ℕ, Err, sym, ap, subst, ◌∙◌}
use Rattle.std.specs.Prelude.{Result}
use Rattle.standby.specs.declared.promoted.Promoted.{Promoted}
use Rattle.standby_feeding.specs.declared.refusal.StreamRefusal.{StreamRefusal}
use Rattle.standby_feeding.specs.StoodBy.{HasStoodBy}
use Rattle.script_lines.specs.Numbers.{object_slots}
use Rattle.brahma_shell.specs.declared.ended.Ended.TheVariants.{Shut}
use Rattle.brahma_shell.specs.Top.{outside}
use Rattle.brahma_shell.specs.StoodBy.{StoodBy}
use Rattle.brahma_shell.proofs.StoodByLemmas.{stood-done, stood-write, stood-refused}
use Rattle.brahma_shell.proofs.standing_by.make_standby.Goals as goal

pub returns-in-Ok-write_promoted-clause-stood_by : goal.returns-in-Ok-write_promoted-clause-stood_by
returns-in-Ok-write_promoted-clause-stood_by g c =
    let h = subst (λ (r : Result Promoted StreamRefusal). HasStoodBy g.D.Disk.may_leave g.D.Disk.moment g.D.Disk.left_since object_slots (g.R.Source.left c.args.script.now) (g.R.Source.left c.stand_by-stood.new.source) c.args.disk c.stand_by-stood.result.1 r)
    c.in-Ok.is c.stand_by-stood.ensures.stood_by in
    stood-done g.D.Disk.may_leave g.D.Disk.moment g.D.Disk.left_since c.args.disk c.stand_by-stood.result.1
    (outside (g.R.Source.left c.args.script.now) (g.R.Source.faults c.args.script.now) (g.W.Sink.written c.args.out.now) (g.W.Sink.faults c.args.out.now) (g.D.Disk.faults c.args.disk))
    (outside (g.R.Source.left c.stand_by-stood.new.source) (g.R.Source.faults c.stand_by-stood.new.source) (g.W.Sink.written c.write_promoted.new.out) (g.W.Sink.faults c.write_promoted.new.out) (g.D.Disk.faults c.stand_by-stood.result.1))
    c.in-Ok.promoted h c.in-Ok-write_promoted.ensures.ok

pub returns-clause-stood_by : goal.returns-clause-stood_by
returns-clause-stood_by g c =
    let h = subst (λ (r : Result Promoted StreamRefusal). HasStoodBy g.D.Disk.may_leave g.D.Disk.moment g.D.Disk.left_since object_slots (g.R.Source.left c.args.script.now) (g.R.Source.left c.stand_by-stood.new.source) c.args.disk c.stand_by-stood.result.1 r)
    c.in-Ok.is c.stand_by-stood.ensures.stood_by in
    stood-write g.D.Disk.may_leave g.D.Disk.moment g.D.Disk.left_since c.args.disk c.stand_by-stood.result.1
    (outside (g.R.Source.left c.args.script.now) (g.R.Source.faults c.args.script.now) (g.W.Sink.written c.args.out.now) (g.W.Sink.faults c.args.out.now) (g.D.Disk.faults c.args.disk))
    (outside (g.R.Source.left c.stand_by-stood.new.source) (g.R.Source.faults c.stand_by-stood.new.source) (g.W.Sink.written c.write_promoted.new.out) (g.W.Sink.faults c.write_promoted.new.out) (g.D.Disk.faults c.stand_by-stood.result.1))
    c.in-Ok.promoted h c.in-Err-write_promoted.ensures.cause.failed c.in-Err-write_promoted.ensures.front

pub returns-in-Err-clause-stood_by : goal.returns-in-Err-clause-stood_by
returns-in-Err-clause-stood_by g c =
    let e = c.in-Err.refusal in
    let h = subst (λ (r : Result Promoted StreamRefusal). HasStoodBy g.D.Disk.may_leave g.D.Disk.moment g.D.Disk.left_since object_slots (g.R.Source.left c.args.script.now) (g.R.Source.left c.stand_by-stood.new.source) c.args.disk c.stand_by-stood.result.1 r)
    c.in-Err.is c.stand_by-stood.ensures.stood_by in
    let why = c.stand_by-stood.ensures.cause in
    let before = outside (g.R.Source.left c.args.script.now) (g.R.Source.faults c.args.script.now) (g.W.Sink.written c.args.out.now) (g.W.Sink.faults c.args.out.now) (g.D.Disk.faults c.args.disk) in
    let after = outside (g.R.Source.left c.stand_by-stood.new.source) (g.R.Source.faults c.stand_by-stood.new.source) (g.W.Sink.written c.refuse_standby.new.out) (g.W.Sink.faults c.refuse_standby.new.out) (g.D.Disk.faults c.stand_by-stood.result.1) in
    subst (λ (status : ℕ). StoodBy g.D.Disk.may_leave g.D.Disk.moment g.D.Disk.left_since c.args.disk before after status (Shut c.stand_by-stood.result.1)) (sym c.refuse_standby.ensures.status)
    (stood-refused g.D.Disk.may_leave g.D.Disk.moment g.D.Disk.left_since c.args.disk c.stand_by-stood.result.1 before after e h c.refuse_standby.ensures.last
    (λ read. why.source_failed (c.in-Err.is ∙ ap (λ (x : StreamRefusal). Err x) read)) (λ failed. why.disk_failed (c.in-Err.is ∙ ap (λ (x : StreamRefusal). Err x) failed)))

pub returns-in-Ok-write_promoted-clause-later : goal.returns-in-Ok-write_promoted-clause-later
returns-in-Ok-write_promoted-clause-later g c = record { reads = c.stand_by-stood.ensures.cause.source_later; writes = c.write_promoted.ensures.cause.later; disk = c.stand_by-stood.ensures.cause.disk_later }

pub returns-clause-later : goal.returns-clause-later
returns-clause-later g c = record { reads = c.stand_by-stood.ensures.cause.source_later; writes = c.write_promoted.ensures.cause.later; disk = c.stand_by-stood.ensures.cause.disk_later }

pub returns-in-Err-clause-later : goal.returns-in-Err-clause-later
returns-in-Err-clause-later g c = record { reads = c.stand_by-stood.ensures.cause.source_later; writes = c.refuse_standby.ensures.later; disk = c.stand_by-stood.ensures.cause.disk_later }
