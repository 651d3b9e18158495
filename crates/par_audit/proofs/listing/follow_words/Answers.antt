use Rattle.std.proofs.Common.{refl, ◌∙◌}
use Rattle.par_audit.proofs.FollowLaws.{words-begin, words-more, words-end}
use Rattle.par_audit.proofs.listing.follow_words.Goals as goal

pub loop-at-init : goal.loop-at-init
loop-at-init c = record { len = refl; follows = words-begin c.args.words.now c.args.unreached.now c.args.found.now.items }

pub loop-at-preserved : goal.loop-at-preserved
loop-at-preserved c =
    let step = c.in_ok-follow_word.ensures in
    record {
      len = step.len ∙ c.loop-at.invariant.len;
      follows = words-more c.args.words.now c.loop-at.at _ _ _ _ _ _ c.loop-at.invariant.follows step;
    }

pub returns : goal.returns
returns c = words-end c.args.words.now c.loop-at.at _ _ _ _ c.loop-at-test.false c.loop-at.invariant.follows
