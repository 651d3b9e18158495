-- What holds of a standby after all the bytes that it was fed with, in whatever pieces they came.
use Rattle.std.specs.Prelude.{ℕ, List, Option, Some, None, ⊤}
use Rattle.ship_stream.specs.declared.refusal.FeedRefusal.{FeedRefusal}
use Rattle.ship_stream.specs.declared.refusal.FeedRefusal.TheVariants.{Damaged, Memory}
use Rattle.ship_stream.specs.Reading.{Reading}
use Rattle.ship_stream.specs.Feeding.{Feeding, IsWaiting}
use Rattle.standby.specs.Following.{Gathering, Following, IsReadInto}
use Rattle.standby.specs.Damage.{IsDamagedAt}

-- This came whole of these bytes, and that is made of it. Nothing more of them is whole, and they show no fault.
pub record HasRead {slots : ℕ} (r : Reading slots) (bytes : List ℕ) (feed : Feeding) (g : Gathering slots) : Type 0 where
  pub read : IsReadInto r bytes feed g
  pub waits : IsWaiting r read.taken.rest

-- so it is with some reading
abbrev pub IsFedWith : {slots : ℕ} → List ℕ → Feeding → Gathering slots → Type 0
IsFedWith {slots} bytes feed g = (r : Reading slots) × HasRead r bytes feed g

-- The standby was fed with these bytes. Where it wasn't refused, they show no fault, and its cells are those of the base after the
-- records of the whole batches. Where it was refused for damage, they show the fault there. Where memory ran out, some of them may
-- not have been read.
abbrev pub FollowsAs : {slots : ℕ} → Option FeedRefusal → List ℕ → Feeding → Gathering slots → Type 0
FollowsAs None bytes feed g = IsFedWith bytes feed g
FollowsAs {slots} (Some (Damaged at)) bytes feed g = IsDamagedAt slots bytes at
FollowsAs (Some Memory) bytes feed g = ⊤

abbrev pub Follows : {slots : ℕ} → List ℕ → Following slots → Type 0
Follows bytes s = FollowsAs s.refused bytes s.feed s.gathered

-- what a standby is: it was fed with some bytes
abbrev pub IsStandby : {slots : ℕ} → Following slots → Type 0
IsStandby s = (bytes : List ℕ) × Follows bytes s
