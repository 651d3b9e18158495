-- An inner object with two sides, and the ways to them.
use Rattle.std.specs.Prelude.{◌≡◌, ◌≢◌, ℕ, ◌<◌, Option, Some}
use Rattle.std.specs.Int.{bit_at}
use Rattle.plain_model.specs.declared.object.Object.{Object}
use Rattle.plain_model.specs.Graphs.{root}
use Rattle.object_map.specs.declared.fork.Fork.{Fork}
use Rattle.object_map.specs.Maps.{IsInner, slot_of}
use Rattle.object_map.specs.Seen.{Seen, at, held}
use Rattle.object_map.specs.Walking.{IsReached}

-- The object names both sides, and the guides' bits lead from the top to them; `see` tells the object of each id.
pub record IsFork (see : ℕ → Option Object) (top : ℕ) (fork : Fork) : Type 0 where
  pub inner : IsInner (see fork.id) fork.bit fork.low fork.high
  pub number : fork.bit < 64
  pub low_way : IsReached see fork.guide fork.bit top fork.low
  pub high_way : IsReached see fork.turned fork.bit top fork.high
  pub low_clear : (b : ℕ) → b < fork.bit → bit_at fork.guide b ≡ 0
  pub high_clear : (b : ℕ) → b < fork.bit → bit_at fork.turned b ≡ 0

-- register 0 holds the root, under whose slot the ways to the sides begin
pub record IsReady (v : Seen) (k : Fork) : Type 0 where
  pub rooted : held v 0 ≡ Some root
  pub start : slot_of (at v root) 13 ≢ 0
  pub fork : IsFork (at v) (slot_of (at v root) 13) k
