use Rattle.std.proofs.Common.{◌-◌, ◌^◌}
use Rattle.object_map.specs.Clients.{seen}
use Rattle.stored_map.specs.Graphs.{pairs_in}
use Rattle.stored_map.specs.Steps.{OnlyLooks}
use Rattle.stored_map.proofs.ListLaws.{Comes}
use Rattle.stored_map.proofs.listing.all_pairs.Given as goal

abbrev pub invariant-pairs : goal.invariant-pairs
invariant-pairs g l = record {
  so_far : Comes l.pairs.items l.key (pairs_in (seen l.fn.client).graph);
  looks : OnlyLooks l.fn.client l.client;
}

abbrev pub decreases-pairs : goal.decreases-pairs
decreases-pairs g l = 2 ^ 64 - l.key
