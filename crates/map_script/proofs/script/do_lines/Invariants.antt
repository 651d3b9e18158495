use Rattle.std.proofs.Common.{◌≡◌, ◌≤◌, ◌+◌, ◌-◌, List, ℕ, length}
use Rattle.std.specs.Io.KnownBytes.{prepend_known}
use Rattle.script_lines.specs.LineReader.{pending}
use Rattle.map_script.specs.Stopping.{StandsAfter}
use Rattle.stored_map.specs.Stores.{view_of, leaving, Tell}
use Rattle.map_script.proofs.script.do_lines.Given as goal

abbrev pub invariant-lines : goal.invariant-lines
invariant-lines g l = record {
  within : (1 ≤ l.number) × (l.number ≤ 65537);
  stands : (done : List (List ℕ)) × (l.number ≡ length done + 1) × StandsAfter (Tell g.D.Disk.content) (g.R.Source.left l.fn.source) (prepend_known (pending l.lines) (g.R.Source.left l.source)) (view_of g.D.Disk.faults l.fn.store) (view_of g.D.Disk.faults l.store) (leaving g.D.Disk.may_leave l.store) (g.W.Sink.written l.fn.out) (g.W.Sink.written l.out) done;
  later : (view_of g.D.Disk.faults l.fn.store).faults ≤ (view_of g.D.Disk.faults l.store).faults;
  source_later : g.R.Source.faults l.fn.source ≤ g.R.Source.faults l.source;
  out_later : g.W.Sink.faults l.fn.out ≤ g.W.Sink.faults l.out;
}

abbrev pub decreases-lines : goal.decreases-lines
decreases-lines g l = 65538 - l.number
