use Rattle.par_audit.proofs.FollowLaws.{follows-then, follows-by, in-more}
use Rattle.par_audit.proofs.following.follow_slots.Goals as goal

pub loop-target-preserved : goal.loop-target-preserved
loop-target-preserved c =
    follows-by _ _ _ _ _ _ (λ id. in-more c.args.slots.now c.loop-target.target-index id c.loop-target-test.true) (follows-then _ _ _ _ _ _ _ _ c.loop-target.invariant c.in_ok-visit.ensures)
