use Rattle.std.proofs.Common.{[], refl}
use Rattle.stored_map.proofs.LeftLaws.{known, known_state, known_same, known_either, known_sized}
use Rattle.stored_map.proofs.knowing.know_left.Goals as goal

pub returns-clause-known : goal.returns-clause-known
returns-clause-known g c =
    known_state g.D.Disk.may_leave c.args.store.now (known g.D.Disk.may_leave c.args.store.now c.logged-logged.result.now c.journal.result.now c.logged-logged.ensures.logged c.journal.ensures.journal c.durable.ensures.opens c.history.ensures.running c.history.ensures.safe c.history.ensures.sound)

pub returns-clause-sized : goal.returns-clause-sized
returns-clause-sized g c = known_sized c.args.store.now c.logged-logged.result.now c.journal.result.now c.logged-logged.ensures.logged c.journal.ensures.journal (c.history.ensures.consistent [] c.journal.result.now.notes refl)

pub returns-clause-settled : goal.returns-clause-settled
returns-clause-settled g c = (known g.D.Disk.may_leave c.args.store.now c.logged-logged.result.now c.journal.result.now c.logged-logged.ensures.logged c.journal.ensures.journal c.durable.ensures.opens c.history.ensures.running c.history.ensures.safe c.history.ensures.sound).settled

pub returns-clause-left : goal.returns-clause-left
returns-clause-left g c =
    known_same g.D.Disk.may_leave c.args.store.now (known g.D.Disk.may_leave c.args.store.now c.logged-logged.result.now c.journal.result.now c.logged-logged.ensures.logged c.journal.ensures.journal c.durable.ensures.opens c.history.ensures.running c.history.ensures.safe c.history.ensures.sound)

pub returns-clause-either : goal.returns-clause-either
returns-clause-either g c =
    known_either g.D.Disk.may_leave c.args.store.now (known g.D.Disk.may_leave c.args.store.now c.logged-logged.result.now c.journal.result.now c.logged-logged.ensures.logged c.journal.ensures.journal c.durable.ensures.opens c.history.ensures.running c.history.ensures.safe c.history.ensures.sound)
