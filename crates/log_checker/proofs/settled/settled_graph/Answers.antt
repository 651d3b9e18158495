use Rattle.standby.specs.declared.refusals.PromoteRefusal.TheVariants.{Disk, NoBase}
use Rattle.log_checker.proofs.SideLaws.{refused_as}
use Rattle.log_checker.proofs.settled.settled_graph.Goals as goal

pub unreachable-requires : goal.unreachable-requires
unreachable-requires g c = c.settle.ensures.refusals Disk (refused_as c.settle.result c.in-Err-Disk.field-0 Disk c.in-Err-Disk.is c.in-Err-Disk.field-0-is)

pub unreachable-requires-in-Err-NoBase : goal.unreachable-requires-in-Err-NoBase
unreachable-requires-in-Err-NoBase g c =
    let at = c.in-Err-NoBase.field-0-0 in
    c.settle.ensures.refusals (NoBase at) (refused_as c.settle.result c.in-Err-NoBase.field-0 (NoBase at) c.in-Err-NoBase.is c.in-Err-NoBase.field-0-is)
