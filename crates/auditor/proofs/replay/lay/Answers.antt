use Rattle.std.proofs.Common.{◌≤◌, length, arith}
use Rattle.auditor.proofs.CountLaws.{relink-past}
use Rattle.auditor.proofs.replay.lay.Goals as goal

pub returns-else-slot : goal.returns-else-slot
returns-else-slot g c =
    let past : length c.args.cell.now.slots ≤ c.args.slot = omega (arith, c.requires.count, c.if-slot.false) in
    relink-past c.args.cell.now c.args.slot (record { target = c.args.target; bit = c.args.bit }) past
