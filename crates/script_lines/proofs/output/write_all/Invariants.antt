use Rattle.std.proofs.Common.{◌≡◌, length}
use Rattle.script_lines.specs.Output.{AppendsUpTo}
use Rattle.script_lines.proofs.output.write_all.Given as goal

abbrev pub invariant-loop-rest : goal.invariant-loop-rest
invariant-loop-rest g l = record {
  so_far : AppendsUpTo (g.W.Sink.written l.fn.out) (g.W.Sink.written l.out) l.piece l.rest;
  unfailed : g.W.Sink.faults l.out ≡ g.W.Sink.faults l.fn.out;
}

abbrev pub decreases-loop-rest : goal.decreases-loop-rest
decreases-loop-rest g l = length l.rest
