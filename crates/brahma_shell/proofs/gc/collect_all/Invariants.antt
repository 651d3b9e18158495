use Rattle.std.proofs.Common.{◌≡◌, [], ◌+◌, ◌-◌, ◌*◌, ◌^◌, ◌<◌, ◌≤◌}
use Rattle.core_store.specs.JournalView.{last_left}
use Rattle.brahma_shell.specs.Log.{StaysRunning}
use Rattle.brahma_shell.specs.Points.{point_of}
use Rattle.brahma_shell.proofs.GcLemmas.{Collected}
use Rattle.brahma_shell.proofs.QuietLemmas.{IsQuietSoFar}
use Rattle.brahma_shell.proofs.gc.collect_all.Given as goal

-- where as many objects were looked at as the store has ids, a round is open
abbrev pub invariant-steps : goal.invariant-steps
invariant-steps g l = record {
  so_far : Collected l.fn.store.journal l.store.journal l.popped (g.W.Sink.written l.fn.out) (g.W.Sink.written l.out);
  within : l.popped ≤ l.ids;
  in_round : l.popped ≡ l.ids → 0 < last_left l.store.journal.notes;
  quiet : (point_of l.fn.store.journal).moment.state.active ≡ [] → IsQuietSoFar l.store.journal l.popped;
  goes_on : StaysRunning g.D.Disk.faults l.fn.store l.store;
  later : g.W.Sink.faults l.fn.out ≤ g.W.Sink.faults l.out;
}

-- each step takes one of at most as many objects as the store has ids out of the queue, or leaves less of the round
abbrev pub decreases-steps : goal.decreases-steps
decreases-steps g l = (l.ids - l.popped) * 2 ^ 64 + last_left l.store.journal.notes
