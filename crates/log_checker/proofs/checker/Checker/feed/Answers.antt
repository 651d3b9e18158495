use Rattle.std.proofs.Common.{◌++◌, sym, ap, subst, ◌∙◌}
use Rattle.log_checker.specs.Checking.{Checking}
use Rattle.log_checker.specs.Feeds.{Follows}
use Rattle.standby.proofs.Results.{none_from, is_error}
use Rattle.log_checker.proofs.FeedingLaws.{refused_on, refused_now, fed_on}
use Rattle.ship_stream.specs.declared.refusal.FeedRefusal.TheVariants.{Damaged}
use Rattle.log_checker.proofs.checker.Checker.feed.Goals as goal

pub returns-in-Some-clause-follows : goal.returns-in-Some-clause-follows
returns-in-Some-clause-follows g c =
    let v : Checking g.row.SLOTS = c.args.self.now in
    λ bytes f. refused_on bytes c.args.piece.now v.feed v.checked v.refused c.in-Some.refusal (sym (ap (λ (s : Checking g.row.SLOTS). s.refused) c.self.view_is) ∙ c.in-Some.is) f

pub invariant_of-self : goal.invariant_of-self
invariant_of-self g c =
    let i = c.self.inside in
    let none = none_from i.refused (λ x is. c.in_default.not-Some x is) in
    let known = c.self.invariant in
    (known.0, (known.1.0 ++ c.args.piece.now, fed_on known.1.0 c.args.piece.now i.feed c.take_piece.new.feed i.gathered c.take_piece.new.gathered i.refused none c.in-Ok.ensures.took known.1.1))

pub invariant_of-self-in-Err : goal.invariant_of-self-in-Err
invariant_of-self-in-Err g c =
    let i = c.self.inside in
    let none = none_from i.refused (λ x is. c.in_default.not-Some x is) in
    let known = c.self.invariant in (
      known.0,
      (
        known.1.0 ++ c.args.piece.now,
        refused_now known.1.0 c.args.piece.now i.feed c.take_piece.new.feed i.gathered c.take_piece.new.gathered i.refused c.in-Err.refusal none
            (λ r front at j is. c.in-Err.ensures.damaged r front at j (is_error c.in-Err.refusal (Damaged at) is)) known.1.1,
      ),
    )

pub returns-in-Ok-clause-follows : goal.returns-in-Ok-clause-follows
returns-in-Ok-clause-follows g c =
    let i = c.self.inside in
    let none = none_from i.refused (λ x is. c.in_default.not-Some x is) in
    λ bytes f.
    fed_on bytes c.args.piece.now i.feed c.take_piece.new.feed i.gathered c.take_piece.new.gathered i.refused none c.in-Ok.ensures.took
    (subst (λ (s : Checking g.row.SLOTS). Follows bytes s) (sym c.self.view_is) f)

pub returns-in-Err-clause-follows : goal.returns-in-Err-clause-follows
returns-in-Err-clause-follows g c =
    let i = c.self.inside in
    let none = none_from i.refused (λ x is. c.in_default.not-Some x is) in
    λ bytes f.
    refused_now bytes c.args.piece.now i.feed c.take_piece.new.feed i.gathered c.take_piece.new.gathered i.refused c.in-Err.refusal none
    (λ r front at j is. c.in-Err.ensures.damaged r front at j (is_error c.in-Err.refusal (Damaged at) is))
    (subst (λ (s : Checking g.row.SLOTS). Follows bytes s) (sym c.self.view_is) f)
