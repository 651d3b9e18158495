use Rattle.std.proofs.Common.{◌≡◌, sym, subst, arith}
use Rattle.std.specs.Prelude.{Option, Some, None, Result, Err}
use Rattle.ship_stream.specs.declared.refusal.FeedRefusal.{FeedRefusal}
use Rattle.ship_stream.specs.declared.refusal.FeedRefusal.TheVariants.{Damaged}
use Rattle.log_checker.specs.declared.verdict.Verdict.{Verdict}
use Rattle.log_checking.specs.declared.refusal.VerdictRefusal.{VerdictRefusal}
use Rattle.log_checking.specs.Checked.{HasChecked, HasCheckCause}
use Rattle.log_checking.proofs.CheckLaws.{unread, judged, unread_cause, judged_cause}
use Rattle.log_checking.proofs.checking.check_stream.Goals as goal

none_some : (o : Option FeedRefusal) (e : FeedRefusal) → o ≡ None → o ≡ Some e → ⊥
none_some o e p q = absurd (cc)

pub verdict-requires : goal.verdict-requires
verdict-requires g c = (omega arith, λ at is. none_some c.in-Ok.checker.refused (Damaged at) c.in-Ok.ensures.fed.fed.unrefused is)

pub returns-in-Err-clause-checked : goal.returns-in-Err-clause-checked
returns-in-Err-clause-checked g c =
    subst (λ (e : VerdictRefusal). HasChecked g.row.SLOTS (g.R.Source.left c.args.source.now) (g.R.Source.left c.feed_from.new.source) (Err e)) (sym c.refusal_of.ensures)
    (unread g.row.SLOTS (g.R.Source.left c.args.source.now) (g.R.Source.left c.feed_from.new.source) c.requires c.in-Err.fault c.in-Err.ensures.fed)

pub returns-in-Err-clause-cause : goal.returns-in-Err-clause-cause
returns-in-Err-clause-cause g c =
    subst (λ (e : VerdictRefusal). HasCheckCause {T = Verdict} (g.R.Source.faults c.args.source.now) (g.R.Source.faults c.feed_from.new.source) (Err e)) (sym c.refusal_of.ensures)
    (unread_cause (g.R.Source.faults c.args.source.now) (g.R.Source.faults c.feed_from.new.source) c.in-Err.fault c.in-Err.ensures.cause)

pub returns-clause-checked : goal.returns-clause-checked
returns-clause-checked g c =
    let f = c.in-Ok.ensures.fed in
    let v = c.verdict.ensures in
    subst (λ (r : Result Verdict VerdictRefusal). HasChecked g.row.SLOTS (g.R.Source.left c.args.source.now) (g.R.Source.left c.feed_from.new.source) r) (sym c.told.ensures)
    (judged g.row.SLOTS (g.R.Source.left c.args.source.now) (g.R.Source.left c.feed_from.new.source) c.requires c.streams_have_one_reading.ensures f.bytes c.verdict.result f.consumed f.fed.through (v.verdict f.bytes f.fed.follows)
    (λ id rule is. v.unsound f.bytes id rule f.fed.follows is) (λ len is. v.base f.bytes len f.fed.follows is))

pub returns-clause-cause : goal.returns-clause-cause
returns-clause-cause g c =
    subst (λ (r : Result Verdict VerdictRefusal). HasCheckCause (g.R.Source.faults c.args.source.now) (g.R.Source.faults c.feed_from.new.source) r) (sym c.told.ensures)
    (judged_cause (g.R.Source.faults c.args.source.now) (g.R.Source.faults c.feed_from.new.source) c.verdict.result (c.in-Ok.ensures.cause.kept (λ is. absurd (cc is))))
