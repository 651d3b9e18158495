use Rattle.std.proofs.Common.{drop}
use Rattle.log_checker.specs.Differences.{HaveSame}
use Rattle.log_checker.proofs.ListLaws.{IsBehind}
use Rattle.log_checker.proofs.id_lists.least_apart.Given as goal

abbrev pub invariant-loop-i : goal.invariant-loop-i
invariant-loop-i l = IsBehind (HaveSame l.one l.other) l.left l.right (drop l.i l.left) (drop l.i l.right)
