use Rattle.object_store.proofs.TurnLaws.{turned, unturned_full, unturned_log, unturned_memory, turn_opens}
use Rattle.object_store.proofs.upkeep.turn.Goals as goal

pub returns-in-Done-clause-turns : goal.returns-in-Done-clause-turns
returns-in-Done-clause-turns g c = turned g.D.Disk.may_leave c.args.below.now c.turn.new.self (c.turn.ensures.done c.in-Done.is) (c.turn.ensures.turned c.in-Done.is)

pub returns-in-DiskFault-clause-fails : goal.returns-in-DiskFault-clause-fails
returns-in-DiskFault-clause-fails g c = c.turn.ensures.fault c.in-DiskFault.is

pub returns-in-TraceFull-clause-fails : goal.returns-in-TraceFull-clause-fails
returns-in-TraceFull-clause-fails g c = unturned_full c.args.below.now c.turn.new.self c.requires.running (c.turn.ensures.full.0 c.in-TraceFull.is).1 (c.turn.ensures.marked c.in-TraceFull.is)

pub returns-in-LogFull-clause-fails : goal.returns-in-LogFull-clause-fails
returns-in-LogFull-clause-fails g c = unturned_log c.args.below.now c.turn.new.self c.requires.running (c.turn.ensures.too_long c.in-LogFull.is) (c.turn.ensures.log_marked c.in-LogFull.is)

pub returns-in-Memory-clause-fails : goal.returns-in-Memory-clause-fails
returns-in-Memory-clause-fails g c = unturned_memory c.args.below.now c.turn.new.self c.requires.running (c.turn.ensures.memory c.in-Memory.is)

pub returns-in-Done-clause-opens : goal.returns-in-Done-clause-opens
returns-in-Done-clause-opens g c = turn_opens g.D.Disk.moment g.D.Disk.left_since c.args.below.now c.turn.new.self c.logged.result.now c.journal.result.now c.requires.running c.logged.ensures.logged c.journal.ensures.journal c.history.ensures.running c.history.ensures.safe c.turn.ensures.opens

pub returns-in-DiskFault-clause-opens : goal.returns-in-DiskFault-clause-opens
returns-in-DiskFault-clause-opens g c = turn_opens g.D.Disk.moment g.D.Disk.left_since c.args.below.now c.turn.new.self c.logged.result.now c.journal.result.now c.requires.running c.logged.ensures.logged c.journal.ensures.journal c.history.ensures.running c.history.ensures.safe c.turn.ensures.opens

pub returns-in-TraceFull-clause-opens : goal.returns-in-TraceFull-clause-opens
returns-in-TraceFull-clause-opens g c = turn_opens g.D.Disk.moment g.D.Disk.left_since c.args.below.now c.turn.new.self c.logged.result.now c.journal.result.now c.requires.running c.logged.ensures.logged c.journal.ensures.journal c.history.ensures.running c.history.ensures.safe c.turn.ensures.opens

pub returns-in-LogFull-clause-opens : goal.returns-in-LogFull-clause-opens
returns-in-LogFull-clause-opens g c = turn_opens g.D.Disk.moment g.D.Disk.left_since c.args.below.now c.turn.new.self c.logged.result.now c.journal.result.now c.requires.running c.logged.ensures.logged c.journal.ensures.journal c.history.ensures.running c.history.ensures.safe c.turn.ensures.opens

pub returns-in-Memory-clause-opens : goal.returns-in-Memory-clause-opens
returns-in-Memory-clause-opens g c = turn_opens g.D.Disk.moment g.D.Disk.left_since c.args.below.now c.turn.new.self c.logged.result.now c.journal.result.now c.requires.running c.logged.ensures.logged c.journal.ensures.journal c.history.ensures.running c.history.ensures.safe c.turn.ensures.opens
