use Rattle.std.proofs.Common.{◌≡◌, ◌/◌, ◌%◌, ◌<◌, ℕ, true, not, length, bit_and, get_or}
use Rattle.std.specs.Prelude.{◌&&◌, ◌==◌}
use Rattle.par_audit.specs.Marks.{Follows, has_bit}
use Rattle.par_audit.proofs.listing.follow_word.Given as goal

abbrev pub invariant-loop-left : goal.invariant-loop-left
invariant-loop-left l = record {
  len : length l.unreached ≡ length l.fn.unreached;
  within : (i : ℕ) → i < 64 → has_bit l.left i ≡ true → has_bit (bit_and (get_or l.fn.unreached l.at 0) l.names) i ≡ true;
  follows : Follows (λ id. (id / 64 == l.at) && (has_bit (bit_and (get_or l.fn.unreached l.at 0) l.names) (id % 64) && not (has_bit l.left (id % 64)))) l.fn.unreached l.unreached l.fn.found.items l.found.items;
}

abbrev pub decreases-loop-left : goal.decreases-loop-left
decreases-loop-left l = l.left
