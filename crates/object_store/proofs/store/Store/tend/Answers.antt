use Rattle.object_store.proofs.TendLaws.{tend_told}
use Rattle.object_store.proofs.store.Store.tend.Goals as goal

pub returns-in-Ok-clause-tends : goal.returns-in-Ok-clause-tends
returns-in-Ok-clause-tends g c =
    (tend_told g.D.Disk.faults g.D.Disk.may_leave c.args.steps c.args.self.now c.ready.new.self c.collect.new.self c.collect.result c.in-Ok.ensures.readies c.collect.ensures.collects c.collect.ensures.failed).tends

pub returns-in-Ok-clause-failed : goal.returns-in-Ok-clause-failed
returns-in-Ok-clause-failed g c =
    (tend_told g.D.Disk.faults g.D.Disk.may_leave c.args.steps c.args.self.now c.ready.new.self c.collect.new.self c.collect.result c.in-Ok.ensures.readies c.collect.ensures.collects c.collect.ensures.failed).failed
