use Rattle.std.proofs.Common.{◌≡◌, take}
use Rattle.green_walk.specs.Judged.{IsSeed, Picks}
use Rattle.green_walk.proofs.seeds.pick_seeds.Given as goal

abbrev pub invariant-loop-place : goal.invariant-loop-place
invariant-loop-place g l = record {
  picks : Picks (IsSeed l.red l.locks l.refs) (take l.place l.red.list) l.seeds.ids;
  limit : l.seeds.limit ≡ l.initial.seeds.limit;
}
