use Rattle.std.proofs.Common.{◌≡◌, ◌≤◌, ◌-◌, take, length}
use Rattle.std.specs.Io.KnownBytes.{prepend_known, Keeps}
use Rattle.script_lines.specs.Lines.{line_feeds}
use Rattle.script_lines.proofs.lines.read_line_feed.Given as goal

abbrev pub invariant-loop-end : goal.invariant-loop-end
invariant-loop-end g l = record {
  size : length l.buffer ≡ 4096;
  within : l.end ≤ 4096;
  none : line_feeds (take l.end l.buffer) ≡ 0;
  bytes : Keeps (prepend_known (take l.fn.end l.fn.buffer) (g.R.Source.left l.fn.source)) (prepend_known (take l.end l.buffer) (g.R.Source.left l.source));
  unfailed : g.R.Source.faults l.source ≡ g.R.Source.faults l.fn.source;
}

abbrev pub decreases-loop-end : goal.decreases-loop-end
decreases-loop-end g l = 4096 - l.end
