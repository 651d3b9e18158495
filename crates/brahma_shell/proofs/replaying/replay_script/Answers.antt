use Rattle.std.proofs.Common.{rules, ◌≤◌, inr, arith}
use Rattle.brahma_shell.proofs.CrashLemmas.{just-opened}
use Rattle.brahma_shell.proofs.replaying.replay_script.Goals as goal

pub replay_in-requires : goal.replay_in-requires
replay_in-requires g c = (search rules, just-opened g.D.Disk.content g.D.Disk.faults c.args.disk c.in-Ok.store c.in-Ok.ensures.opened)

pub returns-in-Ok-clause-replayed : goal.returns-in-Ok-clause-replayed
returns-in-Ok-clause-replayed g c =
    let opened = c.in-Ok.ensures.opened in
    let later : g.D.Disk.faults c.args.disk ≤ g.D.Disk.faults c.in-Ok.store.disk = omega (arith, opened.counted.0, opened.counted.1) in
    inr (c.replay_in.ensures.replayed c.args.disk (g.D.Disk.faults c.args.disk) later opened.opens)

pub returns-in-Ok-clause-later : goal.returns-in-Ok-clause-later
returns-in-Ok-clause-later g c =
    let opened = c.in-Ok.ensures.opened in
    let goes = c.replay_in.ensures.later in
    record { reads = goes.reads; writes = goes.writes; disk = omega (arith, opened.counted.0, opened.counted.1, goes.disk) }

pub returns-in-Ok-clause-statuses : goal.returns-in-Ok-clause-statuses
returns-in-Ok-clause-statuses g c =
    let opened = c.in-Ok.ensures.opened in
    let later : g.D.Disk.faults c.args.disk ≤ g.D.Disk.faults c.in-Ok.store.disk = omega (arith, opened.counted.0, opened.counted.1) in
    let h = c.replay_in.ensures.replayed c.args.disk (g.D.Disk.faults c.args.disk) later opened.opens in
    h.statuses
