use Rattle.std.proofs.Common.{Err, ap}
use Rattle.logged_journal.specs.declared.collect.CollectRefusal.{CollectRefusal}
use Rattle.object_store.proofs.CollectLaws.{not_failed, event_makes, idle_makes, idle_rest, full_none, memory_none, log_none}
use Rattle.object_store.proofs.upkeep.collect_once.Goals as goal

-- ---- it has nothing to do

pub returns-in-Ok-Idle-clause-idle : goal.returns-in-Ok-Idle-clause-idle
returns-in-Ok-Idle-clause-idle g c told =
    let e = c.in-Ok-Idle.ensures in
    idle_makes c.args.below.now c.collect_step.new.self c.in-Ok-Idle.field-0 c.requires.quiet e.does e.goes_on e.untouched c.in-Ok-Idle.field-0-is

pub returns-in-Ok-Idle-clause-rest : goal.returns-in-Ok-Idle-clause-rest
returns-in-Ok-Idle-clause-rest g c told = idle_rest c.args.below.now c.collect_step.new.self c.in-Ok-Idle.field-0 c.in-Ok-Idle.ensures.does c.in-Ok-Idle.field-0-is

-- ---- it makes an event

pub returns-in-Ok-Did-clause-made : goal.returns-in-Ok-Did-clause-made
returns-in-Ok-Did-clause-made g c told =
    let e = c.in-Ok-Did.ensures in
    event_makes c.args.below.now c.collect_step.new.self c.in-Ok-Did.field-0 c.requires.quiet e.does e.goes_on e.untouched (rw c.in-Ok-Did.field-0-is tt)

pub returns-in-Ok-Deleted-clause-made : goal.returns-in-Ok-Deleted-clause-made
returns-in-Ok-Deleted-clause-made g c told =
    let e = c.in-Ok-Deleted.ensures in
    event_makes c.args.below.now c.collect_step.new.self c.in-Ok-Deleted.field-0 c.requires.quiet e.does e.goes_on e.untouched (rw c.in-Ok-Deleted.field-0-is tt)

-- ---- it is refused

pub returns-in-Ok-TraceFull-clause-refused : goal.returns-in-Ok-TraceFull-clause-refused
returns-in-Ok-TraceFull-clause-refused g c =
    let e = c.in-Ok-TraceFull.ensures in
    (full_none c.args.below.now c.collect_step.new.self c.in-Ok-TraceFull.field-0 c.requires.quiet e.does e.goes_on e.untouched c.in-Ok-TraceFull.field-0-is).makes

pub returns-in-Ok-TraceFull-clause-cause : goal.returns-in-Ok-TraceFull-clause-cause
returns-in-Ok-TraceFull-clause-cause g c =
    let e = c.in-Ok-TraceFull.ensures in
    (full_none c.args.below.now c.collect_step.new.self c.in-Ok-TraceFull.field-0 c.requires.quiet e.does e.goes_on e.untouched c.in-Ok-TraceFull.field-0-is).cause

pub returns-in-Ok-Memory-clause-refused : goal.returns-in-Ok-Memory-clause-refused
returns-in-Ok-Memory-clause-refused g c =
    let e = c.in-Ok-Memory.ensures in
    (memory_none c.args.below.now c.collect_step.new.self c.in-Ok-Memory.field-0 c.requires.quiet e.does e.goes_on e.untouched c.in-Ok-Memory.field-0-is).makes

pub returns-in-Err-LogFull-clause-refused : goal.returns-in-Err-LogFull-clause-refused
returns-in-Err-LogFull-clause-refused g c =
    let e = c.in-Err-LogFull.ensures in
    (log_none c.args.below.now c.collect_step.new.self c.requires.running c.requires.quiet (e.log_full (ap (λ (x : CollectRefusal). Err x) c.in-Err-LogFull.field-0-is)) e.untouched).makes

pub returns-in-Err-LogFull-clause-cause : goal.returns-in-Err-LogFull-clause-cause
returns-in-Err-LogFull-clause-cause g c =
    let e = c.in-Err-LogFull.ensures in
    (log_none c.args.below.now c.collect_step.new.self c.requires.running c.requires.quiet (e.log_full (ap (λ (x : CollectRefusal). Err x) c.in-Err-LogFull.field-0-is)) e.untouched).cause

pub unreachable-requires : goal.unreachable-requires
unreachable-requires g c = not_failed _ c.requires.running (c.in-Err-Stopped.ensures.only_stopped _ (ap (λ (x : CollectRefusal). Err x) c.in-Err-Stopped.field-0-is))
