use Rattle.std.proofs.Common.{◌≡◌, take}
use Rattle.cell_model.specs.Graph.{graph_of}
use Rattle.log_checker.proofs.folded_objects.Objects.graph.Given as goal

abbrev pub invariant-loop-id : goal.invariant-loop-id
invariant-loop-id g l = l.graph ≡ graph_of (take l.id l.self)
