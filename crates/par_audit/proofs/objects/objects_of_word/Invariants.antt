use Rattle.std.proofs.Common.{◌≡◌, ◌+◌, ◌*◌, ◌<◌, ◌≤◌, ℕ, false, map}
use Rattle.cell_page.specs.Stored.{cell_of}
use Rattle.par_audit.specs.Marks.{has_bit, is_object}
use Rattle.par_audit.proofs.objects.objects_of_word.Given as goal

abbrev pub invariant-loop-bit : goal.invariant-loop-bit
invariant-loop-bit g l = record {
  done : (bit : ℕ) → bit < l.bit → has_bit l.word bit ≡ is_object (map cell_of l.cells) (64 * l.at + bit);
  rest : (bit : ℕ) → l.bit ≤ bit → has_bit l.word bit ≡ false;
}
