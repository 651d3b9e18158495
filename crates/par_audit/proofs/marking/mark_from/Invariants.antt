use Rattle.std.proofs.Common.{◌≡◌, ◌≤◌, ◌+◌, ◌-◌, ◌/◌, ◌^◌, ◌∷◌, [], length, map, drop}
use Rattle.plain_model.specs.Graphs.{root}
use Rattle.cell_model.specs.Graph.{graph_of}
use Rattle.cell_page.specs.Stored.{cell_of}
use Rattle.par_audit.specs.Marks.{is_reached, AreObjects}
use Rattle.par_audit.proofs.LevelLaws.{IsMarking}
use Rattle.par_audit.proofs.marking.mark_from.Given as goal

abbrev pub invariant-loop-from : goal.invariant-loop-from
invariant-loop-from g l = record {
  len : length l.unreached ≡ length l.cells / 64 + 1;
  within : l.«from» ≤ length l.found.items;
  objects : AreObjects (map cell_of l.cells) l.unreached;
  marking : IsMarking (graph_of (map cell_of l.cells)) (root ∷ []) (is_reached (map cell_of l.cells) l.unreached) (drop l.«from» l.found.items);
}

abbrev pub decreases-loop-from : goal.decreases-loop-from
decreases-loop-from g l = 2 ^ 63 - l.«from»
