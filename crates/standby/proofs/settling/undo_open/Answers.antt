use Rattle.std.proofs.Common.{◌*◌, length}
use Rattle.restart_laws.proofs.RuleLaws.{consistent-rules}
use Rattle.standby.proofs.settling.undo_open.Goals as goal

pub returns-in-Ok-clause-rules : goal.returns-in-Ok-clause-rules
returns-in-Ok-clause-rules g c = consistent-rules g.row.SLOTS (8 * length c.undo_all.new.replay.skips) c.undo_all.new.replay.cells c.in-Ok.ensures.done.consistent
