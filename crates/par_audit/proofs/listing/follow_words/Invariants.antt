use Rattle.std.proofs.Common.{◌≡◌, ◌/◌, length, nat_lt}
use Rattle.std.specs.Prelude.{◌&&◌}
use Rattle.par_audit.specs.Marks.{Follows, is_marked}
use Rattle.par_audit.proofs.listing.follow_words.Given as goal

abbrev pub invariant-loop-at : goal.invariant-loop-at
invariant-loop-at l = record {
  len : length l.unreached ≡ length l.fn.unreached;
  follows : Follows (λ id. nat_lt (id / 64) l.at && is_marked l.words id) l.fn.unreached l.unreached l.fn.found.items l.found.items;
}
