use Rattle.std.proofs.Common.{map}
use Rattle.cell_page.specs.Stored.{cell_of}
use Rattle.auditor.proofs.CountLaws.{listed-step}
use Rattle.auditor.proofs.auditing.find_differences.Goals as goal

pub loop-i-preserved : goal.loop-i-preserved
loop-i-preserved g c =
    listed-step (map cell_of c.args.cells.now) c.args.frames.now c.loop-i.i _ _ _ _ _ _ c.in_ok-list_if_other.ensures c.kept-kept.ensures c.joined-found.ensures c.found-found.ensures.strong c.found-found.ensures.weak c.loop-i.invariant
