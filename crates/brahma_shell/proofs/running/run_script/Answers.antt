use Rattle.std.proofs.Common.{◌≤◌, inr, arith}
use Rattle.brahma_shell.proofs.RanLemmas.{status-of_run}
use Rattle.brahma_shell.proofs.running.run_script.Goals as goal

pub returns-in-Ok-clause-ran : goal.returns-in-Ok-clause-ran
returns-in-Ok-clause-ran g c =
    let o = c.in-Ok.ensures.opened in
    let later : g.D.Disk.faults c.args.disk ≤ g.D.Disk.faults c.in-Ok.store.disk = omega (arith, o.counted.0, o.counted.1) in
    inr (c.run_in.ensures.ran c.args.disk (g.D.Disk.faults c.args.disk) later o.opens)

pub returns-in-Ok-clause-statuses : goal.returns-in-Ok-clause-statuses
returns-in-Ok-clause-statuses g c =
    let o = c.in-Ok.ensures.opened in
    let later : g.D.Disk.faults c.args.disk ≤ g.D.Disk.faults c.in-Ok.store.disk = omega (arith, o.counted.0, o.counted.1) in
    status-of_run c.run_in.result.0 (c.run_in.ensures.ran c.args.disk (g.D.Disk.faults c.args.disk) later o.opens).2.statuses
