use Rattle.object_store.specs.Tended.{unready}
use Rattle.object_store.proofs.TendedLaws.{start_told, readies_closed, readies_room, ended_closed}
use Rattle.object_store.proofs.store.Store.start_ready.Goals as goal

pub start-requires-clause-closed : goal.start-requires-clause-closed
start-requires-clause-closed g c κs within = readies_closed g.D.Disk.may_leave c.end_left.new.self c.ready.new.self c.in-Ok.ensures.readies (ended_closed c.args.self.now c.end_left.new.self c.end_left.ensures)

pub start-requires-clause-room : goal.start-requires-clause-room
start-requires-clause-room g c κs within = readies_room g.D.Disk.may_leave c.end_left.new.self c.ready.new.self c.in-Ok.ensures.readies

pub returns-in-Ok-clause-begun : goal.returns-in-Ok-clause-begun
returns-in-Ok-clause-begun g c =
    (start_told g.D.Disk.faults g.D.Disk.may_leave c.args.self.now c.end_left.new.self c.ready.new.self c.start.new.self c.start.result c.end_left.ensures c.in-Ok.ensures.readies c.start.ensures.begun c.start.ensures.refused).begun

pub returns-in-Ok-clause-refused : goal.returns-in-Ok-clause-refused
returns-in-Ok-clause-refused g c =
    (start_told g.D.Disk.faults g.D.Disk.may_leave c.args.self.now c.end_left.new.self c.ready.new.self c.start.new.self c.start.result c.end_left.ensures c.in-Ok.ensures.readies c.start.ensures.begun c.start.ensures.refused).refused

pub returns-in-Err-clause-refused : goal.returns-in-Err-clause-refused
returns-in-Err-clause-refused g c = unready c.end_left.new.self c.end_left.ensures c.in-Err.ensures.long c.in-Err.ensures.failed
