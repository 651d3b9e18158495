use Rattle.std.proofs.Common.{sym, ap, ◌∙◌}
use Rattle.stored_map.specs.declared.kept.Kept.{Kept}
use Rattle.stored_map.specs.Stores.{view_of}
use Rattle.stored_map.proofs.KeptLaws.{not_stopped, not_shut, not_taken, is_idle, is_looking}
use Rattle.stored_map.proofs.CrashLaws.{idle_holds, looking_holds}
use Rattle.stored_map.proofs.crashing.take_disk.Goals as goal

pub disk_in-requires-clause-running : goal.disk_in-requires-clause-running
disk_in-requires-clause-running g c κs within = (is_idle c.args.kept.now c.in-Idle.store (sym c.replace.ensures.value ∙ c.in-Idle.is) c.requires.kept).quiet.running

pub returns-in-Idle-clause-holds : goal.returns-in-Idle-clause-holds
returns-in-Idle-clause-holds g c =
    let is = sym c.replace.ensures.value ∙ c.in-Idle.is in
    idle_holds g.D.Disk.faults g.D.Disk.may_leave c.args.kept.now c.in-Idle.store c.disk_in.result is (is_idle c.args.kept.now c.in-Idle.store is c.requires.kept) c.disk_in.ensures.known c.disk_in.ensures.left c.disk_in.ensures.disk

pub returns-in-Idle-clause-faults : goal.returns-in-Idle-clause-faults
returns-in-Idle-clause-faults g c = ap g.D.Disk.faults c.disk_in.ensures.disk ∙ ap (λ (k : Kept _). (view_of g.D.Disk.faults k).faults) (sym c.in-Idle.is ∙ c.replace.ensures.value)

pub disk_in-requires-in-Looking-clause-running : goal.disk_in-requires-in-Looking-clause-running
disk_in-requires-in-Looking-clause-running g c κs within = (is_looking c.args.kept.now c.in-Looking.store (sym c.replace.ensures.value ∙ c.in-Looking.is) c.requires.kept).begun.client.running

pub returns-in-Looking-clause-holds : goal.returns-in-Looking-clause-holds
returns-in-Looking-clause-holds g c =
    let is = sym c.replace.ensures.value ∙ c.in-Looking.is in
    looking_holds g.D.Disk.faults g.D.Disk.may_leave c.args.kept.now c.in-Looking.store c.disk_in-in-Looking.result is (is_looking c.args.kept.now c.in-Looking.store is c.requires.kept) c.disk_in-in-Looking.ensures.known c.disk_in-in-Looking.ensures.left c.disk_in-in-Looking.ensures.disk

pub returns-in-Looking-clause-faults : goal.returns-in-Looking-clause-faults
returns-in-Looking-clause-faults g c = ap g.D.Disk.faults c.disk_in-in-Looking.ensures.disk ∙ ap (λ (k : Kept _). (view_of g.D.Disk.faults k).faults) (sym c.in-Looking.is ∙ c.replace.ensures.value)

pub unreachable-requires : goal.unreachable-requires
unreachable-requires g c = not_stopped c.args.kept.now c.in-Stopped.field-0 (sym c.replace.ensures.value ∙ c.in-Stopped.is) c.requires.running

pub unreachable-requires-in-Shut : goal.unreachable-requires-in-Shut
unreachable-requires-in-Shut g c = not_shut c.args.kept.now c.in-Shut.field-0 (sym c.replace.ensures.value ∙ c.in-Shut.is) c.requires.running

pub unreachable-requires-in-Taken : goal.unreachable-requires-in-Taken
unreachable-requires-in-Taken g c = not_taken c.args.kept.now (sym c.replace.ensures.value ∙ c.in-Taken.is) c.requires.kept
