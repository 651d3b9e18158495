use Rattle.std.proofs.Common.{◌≡◌, take}
use Rattle.std.specs.Prelude.{Contains}
use Rattle.red_walk.specs.Ids.{IsIdList}
use Rattle.green_walk.specs.Judged.{Picks}
use Rattle.green_walk.proofs.part.part.Given as goal

abbrev pub invariant-loop-id : goal.invariant-loop-id
invariant-loop-id l = record {
  live : Picks (Contains l.reached.ids) (take l.id-index l.list) l.live.ids;
  condemned : Picks (λ id. Contains l.reached.ids id → ⊥) (take l.id-index l.list) l.condemned.ids;
  live_ids : IsIdList l.live.ids l.live.limit;
  condemned_ids : IsIdList l.condemned.ids l.condemned.limit;
  live_limit : l.live.limit ≡ l.initial.live.limit;
  condemned_limit : l.condemned.limit ≡ l.initial.condemned.limit;
}
