use Rattle.std.proofs.Common.{Err, ap}
use Rattle.logged_journal.specs.declared.collect.CollectRefusal.{CollectRefusal}
use Rattle.stored_map.proofs.AskLaws.{none_failed}
use Rattle.stored_map.proofs.CollectLaws.{idle_turns, idle_exact, event_turns, event_fewer, full_collects, full_marked, memory_turns, memory_marked, log_collects, log_marked}
use Rattle.stored_map.proofs.collecting.collect_once.Goals as goal

-- ---- it has nothing to do

pub returns-in-Ok-Idle-clause-collects : goal.returns-in-Ok-Idle-clause-collects
returns-in-Ok-Idle-clause-collects g c =
    let e = c.in-Ok-Idle.ensures in
    (idle_turns c.args.store.now c.collect_step.new.self c.in-Ok-Idle.field-0 c.requires.quiet e.does e.goes_on e.untouched c.in-Ok-Idle.field-0-is).collects

pub returns-in-Ok-Idle-clause-quiet : goal.returns-in-Ok-Idle-clause-quiet
returns-in-Ok-Idle-clause-quiet g c =
    let e = c.in-Ok-Idle.ensures in
    (idle_turns c.args.store.now c.collect_step.new.self c.in-Ok-Idle.field-0 c.requires.quiet e.does e.goes_on e.untouched c.in-Ok-Idle.field-0-is).quiet

pub returns-in-Ok-Idle-clause-exact : goal.returns-in-Ok-Idle-clause-exact
returns-in-Ok-Idle-clause-exact g c told =
    let e = c.in-Ok-Idle.ensures in
    let t = idle_turns c.args.store.now c.collect_step.new.self c.in-Ok-Idle.field-0 c.requires.quiet e.does e.goes_on e.untouched c.in-Ok-Idle.field-0-is in
    idle_exact c.args.store.now c.collect_step.new.self c.logged.result.now c.in-Ok-Idle.field-0 c.journal.result.now c.queue_len.result e.does c.in-Ok-Idle.field-0-is t.collects.none c.logged.ensures.logged c.journal.ensures.journal c.queue_len.ensures.waiting c.queue_len.ensures.rest

-- ---- it makes an event

pub returns-in-Ok-Did-clause-collects : goal.returns-in-Ok-Did-clause-collects
returns-in-Ok-Did-clause-collects g c =
    let e = c.in-Ok-Did.ensures in
    (event_turns c.args.store.now c.collect_step.new.self c.in-Ok-Did.field-0 c.requires.quiet e.does e.goes_on e.untouched (rw c.in-Ok-Did.field-0-is tt)).collects

pub returns-in-Ok-Did-clause-quiet : goal.returns-in-Ok-Did-clause-quiet
returns-in-Ok-Did-clause-quiet g c =
    let e = c.in-Ok-Did.ensures in
    (event_turns c.args.store.now c.collect_step.new.self c.in-Ok-Did.field-0 c.requires.quiet e.does e.goes_on e.untouched (rw c.in-Ok-Did.field-0-is tt)).quiet

pub returns-in-Ok-Did-clause-fewer : goal.returns-in-Ok-Did-clause-fewer
returns-in-Ok-Did-clause-fewer g c told = event_fewer c.args.store.now c.collect_step.new.self c.in-Ok-Did.field-0 c.in-Ok-Did.ensures.does (rw c.in-Ok-Did.field-0-is tt)

pub returns-in-Ok-Deleted-clause-collects : goal.returns-in-Ok-Deleted-clause-collects
returns-in-Ok-Deleted-clause-collects g c =
    let e = c.in-Ok-Deleted.ensures in
    (event_turns c.args.store.now c.collect_step.new.self c.in-Ok-Deleted.field-0 c.requires.quiet e.does e.goes_on e.untouched (rw c.in-Ok-Deleted.field-0-is tt)).collects

pub returns-in-Ok-Deleted-clause-quiet : goal.returns-in-Ok-Deleted-clause-quiet
returns-in-Ok-Deleted-clause-quiet g c =
    let e = c.in-Ok-Deleted.ensures in
    (event_turns c.args.store.now c.collect_step.new.self c.in-Ok-Deleted.field-0 c.requires.quiet e.does e.goes_on e.untouched (rw c.in-Ok-Deleted.field-0-is tt)).quiet

pub returns-in-Ok-Deleted-clause-fewer : goal.returns-in-Ok-Deleted-clause-fewer
returns-in-Ok-Deleted-clause-fewer g c told = event_fewer c.args.store.now c.collect_step.new.self c.in-Ok-Deleted.field-0 c.in-Ok-Deleted.ensures.does (rw c.in-Ok-Deleted.field-0-is tt)

-- ---- it is refused

pub returns-in-Ok-TraceFull-clause-collects : goal.returns-in-Ok-TraceFull-clause-collects
returns-in-Ok-TraceFull-clause-collects g c =
    let e = c.in-Ok-TraceFull.ensures in
    full_collects c.args.store.now c.collect_step.new.self c.in-Ok-TraceFull.field-0 c.requires.quiet e.does e.goes_on e.untouched c.in-Ok-TraceFull.field-0-is

pub returns-in-Ok-TraceFull-clause-marked : goal.returns-in-Ok-TraceFull-clause-marked
returns-in-Ok-TraceFull-clause-marked g c =
    let e = c.in-Ok-TraceFull.ensures in
    full_marked c.args.store.now c.collect_step.new.self c.in-Ok-TraceFull.field-0 c.requires.quiet e.does e.goes_on c.in-Ok-TraceFull.field-0-is

pub returns-in-Ok-Memory-clause-collects : goal.returns-in-Ok-Memory-clause-collects
returns-in-Ok-Memory-clause-collects g c =
    let e = c.in-Ok-Memory.ensures in
    (memory_turns c.args.store.now c.collect_step.new.self c.in-Ok-Memory.field-0 c.requires.quiet e.does e.goes_on e.untouched c.in-Ok-Memory.field-0-is).collects

pub returns-in-Ok-Memory-clause-marked : goal.returns-in-Ok-Memory-clause-marked
returns-in-Ok-Memory-clause-marked g c =
    let e = c.in-Ok-Memory.ensures in
    memory_marked c.args.store.now c.collect_step.new.self (memory_turns c.args.store.now c.collect_step.new.self c.in-Ok-Memory.field-0 c.requires.quiet e.does e.goes_on e.untouched c.in-Ok-Memory.field-0-is)

pub returns-in-Err-LogFull-clause-collects : goal.returns-in-Err-LogFull-clause-collects
returns-in-Err-LogFull-clause-collects g c =
    let e = c.in-Err-LogFull.ensures in
    log_collects c.args.store.now c.collect_step.new.self c.requires.quiet (e.log_full (ap (λ (x : CollectRefusal). Err x) c.in-Err-LogFull.field-0-is)) e.untouched

pub returns-in-Err-LogFull-clause-marked : goal.returns-in-Err-LogFull-clause-marked
returns-in-Err-LogFull-clause-marked g c = log_marked c.args.store.now c.collect_step.new.self c.requires.quiet (c.in-Err-LogFull.ensures.log_full (ap (λ (x : CollectRefusal). Err x) c.in-Err-LogFull.field-0-is))

pub unreachable-requires : goal.unreachable-requires
unreachable-requires g c = none_failed _ c.requires.quiet.running (c.in-Err-Stopped.ensures.only_stopped _ (ap (λ (x : CollectRefusal). Err x) c.in-Err-Stopped.field-0-is))
