use Rattle.std.proofs.Common.{◌≤◌, ◌-◌}
use Rattle.brahma_shell.specs.Scripts.{left_in}
use Rattle.brahma_shell.proofs.LoopLemmas.{ComesTo}
use Rattle.brahma_shell.proofs.replaying.replay_in.Given as goal

abbrev pub invariant-crashes : goal.invariant-crashes
invariant-crashes g l = record {
  number : l.script.number ≤ 65537;
  come : ComesTo g.D.Disk.content g.D.Disk.may_leave (g.R.Source.left l.fn.source) (left_in l.script (g.R.Source.left l.source)) (g.W.Sink.written l.fn.out) (g.W.Sink.written l.out) l.script.number l.fn.store.journal.opening l.store;
  source_later : g.R.Source.faults l.fn.source ≤ g.R.Source.faults l.source;
  out_later : g.W.Sink.faults l.fn.out ≤ g.W.Sink.faults l.out;
  disk_later : g.D.Disk.faults l.fn.store.disk ≤ g.D.Disk.faults l.store.disk;
}

abbrev pub decreases-crashes : goal.decreases-crashes
decreases-crashes g l = 65538 - l.script.number
