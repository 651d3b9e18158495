use Rattle.std.proofs.Common.{◌≡◌, length, take}
use Rattle.plain_model.specs.Graphs.{applied}
use Rattle.cell_model.specs.Graph.{graph_of}
use Rattle.log_checker.proofs.folded_objects.Objects.write_all.Given as goal

abbrev pub invariant-loop-write : goal.invariant-loop-write
invariant-loop-write g l = record {
  graph : graph_of l.self ≡ applied g.row.SLOTS (graph_of l.initial.self) (take l.write-index l.writes);
  sized : length l.self ≡ length l.initial.self;
}
