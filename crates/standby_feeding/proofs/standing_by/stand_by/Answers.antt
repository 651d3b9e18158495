use Rattle.std.proofs.Common.{sym, subst}
use Rattle.std.specs.Prelude.{Result, Err}
use Rattle.standby.specs.declared.promoted.Promoted.{Promoted}
use Rattle.standby_feeding.specs.declared.refusal.StreamRefusal.{StreamRefusal}
use Rattle.standby_feeding.specs.StoodBy.{HasStoodBy, HasStreamCause}
use Rattle.standby_feeding.proofs.StoodLaws.{unread, stood, unread_cause, stood_cause}
use Rattle.standby_feeding.proofs.standing_by.stand_by.Goals as goal

pub returns-in-Err-clause-stood_by : goal.returns-in-Err-clause-stood_by
returns-in-Err-clause-stood_by g c =
    subst (λ (e : StreamRefusal). HasStoodBy g.D.Disk.may_leave g.D.Disk.moment g.D.Disk.left_since g.row.SLOTS (g.R.Source.left c.args.source.now) (g.R.Source.left c.feed_from.new.source) c.args.disk c.args.disk (Err e))
    (sym c.refusal_of.ensures)
    (unread g.D.Disk.may_leave g.D.Disk.moment g.D.Disk.left_since g.row.SLOTS (g.R.Source.left c.args.source.now) (g.R.Source.left c.feed_from.new.source) c.requires.count c.args.disk c.in-Err.fault g.D.Disk.only_now c.in-Err.ensures.fed)

pub returns-in-Err-clause-cause : goal.returns-in-Err-clause-cause
returns-in-Err-clause-cause g c =
    subst (λ (e : StreamRefusal). HasStreamCause {T = Promoted} (g.R.Source.faults c.args.source.now) (g.R.Source.faults c.feed_from.new.source) (g.D.Disk.faults c.args.disk) (g.D.Disk.faults c.args.disk) (Err e))
    (sym c.refusal_of.ensures)
    (unread_cause (g.R.Source.faults c.args.source.now) (g.R.Source.faults c.feed_from.new.source) (g.D.Disk.faults c.args.disk) c.in-Err.fault c.in-Err.ensures.cause)

pub returns-clause-stood_by : goal.returns-clause-stood_by
returns-clause-stood_by g c =
    let f = c.in-Ok.ensures.fed in
    let p = c.promote-promoted.ensures in
    subst (λ (r : Result Promoted StreamRefusal). HasStoodBy g.D.Disk.may_leave g.D.Disk.moment g.D.Disk.left_since g.row.SLOTS (g.R.Source.left c.args.source.now) (g.R.Source.left c.feed_from.new.source) c.args.disk c.promote-promoted.result.1 r)
    (sym c.told.ensures)
    (stood g.D.Disk.may_leave g.D.Disk.moment g.D.Disk.left_since g.row.SLOTS (g.R.Source.left c.args.source.now) (g.R.Source.left c.feed_from.new.source) c.requires.count c.streams_have_one_reading.ensures c.args.disk c.promote-promoted.result.1 f.bytes c.promote-promoted.result.0
    f.consumed f.fed.through (p.promoted f.bytes f.fed.follows) (p.moments f.bytes f.fed.follows) (λ id rule is. p.unsound f.bytes id rule f.fed.follows is) (λ len is. p.base f.bytes len f.fed.follows is) (p.failed f.bytes f.fed.follows) p.uncalled)

pub returns-clause-cause : goal.returns-clause-cause
returns-clause-cause g c =
    subst (λ (r : Result Promoted StreamRefusal). HasStreamCause (g.R.Source.faults c.args.source.now) (g.R.Source.faults c.feed_from.new.source) (g.D.Disk.faults c.args.disk) (g.D.Disk.faults c.promote-promoted.result.1) r)
    (sym c.told.ensures)
    (stood_cause (g.R.Source.faults c.args.source.now) (g.R.Source.faults c.feed_from.new.source) (g.D.Disk.faults c.args.disk) (g.D.Disk.faults c.promote-promoted.result.1) c.promote-promoted.result.0
    (c.in-Ok.ensures.cause.kept (λ is. absurd (cc is))) c.promote-promoted.ensures.cause)
