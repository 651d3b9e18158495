use Rattle.std.proofs.Common.{◌/◌, ◌%◌, ◌∙◌, ℕ, not, bit_and, get_or, refl, sym, subst}
use Rattle.std.specs.Prelude.{◌&&◌, ◌==◌}
use Rattle.par_audit.specs.Marks.{Follows, has_bit}
use Rattle.par_audit.proofs.FollowLaws.{and-first, word-begins, word-more, word-ends}
use Rattle.par_audit.proofs.listing.follow_word.Goals as goal

pub loop-left-init : goal.loop-left-init
loop-left-init c = record {
  len = refl;
  within = λ i below has. has;
  follows = word-begins c.args.unreached.now c.args.found.now.items c.args.at (bit_and (get_or c.args.unreached.now c.args.at 0) c.args.names);
}

pub loop-left-preserved : goal.loop-left-preserved
loop-left-preserved c =
    let is = c.loop-left.invariant in
    let step = c.in_ok-visit.ensures in
    let bit = c.lowest-bit.result in
    let lowest = c.lowest-bit.ensures in
    let first = bit_and (get_or c.args.unreached.now c.args.at 0) c.args.names in
    record {
      len = step.len ∙ is.len;
      within = λ i below has. is.within i below (and-first (has_bit c.loop-left.left i) (not (bit == i)) (sym (c.without-left.ensures.each i below) ∙ has));
      follows = word-more first c.loop-left.left c.without-left.result c.args.at bit _ _ _ _ _ _ lowest.within (is.within bit lowest.within lowest.has) c.without-left.ensures.each is.follows step;
    }

pub returns : goal.returns
returns c =
    let first = bit_and (get_or c.args.unreached.now c.args.at 0) c.args.names in
    word-ends c.args.names c.args.at _ _ _ _
    (subst (λ (left : ℕ). Follows (λ id. (id / 64 == c.args.at) && (has_bit first (id % 64) && not (has_bit left (id % 64)))) c.args.unreached.now c.loop-left.unreached c.args.found.now.items c.loop-left.found.items)
    c.loop-left-test.false c.loop-left.invariant.follows)
