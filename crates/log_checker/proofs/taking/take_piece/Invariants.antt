use Rattle.std.proofs.Common.{ℕ, List, ◌++◌, length}
use Rattle.ship_stream.specs.Reading.{Reading}
use Rattle.log_checker.specs.Checking.{IsReadInto}
use Rattle.log_checker.proofs.TakingLaws.{IsPartly}
use Rattle.log_checker.proofs.taking.take_piece.Given as goal

abbrev pub decreases-parts : goal.decreases-parts
decreases-parts g l = length l.left

abbrev pub invariant-parts : goal.invariant-parts
invariant-parts g l =
    (r : Reading g.row.SLOTS) (bytes : List ℕ) → IsReadInto r bytes l.initial.feed l.initial.gathered → IsPartly (bytes ++ l.fn.piece) l.feed l.gathered l.left
