-- What holds of a checker after all the bytes that it was fed with, in whatever pieces they came.
use Rattle.std.specs.Prelude.{ℕ, List, Option, Some, None, ⊤}
use Rattle.ship_stream.specs.declared.refusal.FeedRefusal.{FeedRefusal}
use Rattle.ship_stream.specs.declared.refusal.FeedRefusal.TheVariants.{Damaged, Memory}
use Rattle.ship_stream.specs.Reading.{Reading}
use Rattle.ship_stream.specs.Feeding.{Feeding, IsWaiting}
use Rattle.standby.specs.Damage.{IsDamagedAt}
use Rattle.log_checker.specs.Checking.{Checked, Checking, IsReadInto}

-- This came whole of these bytes, and that is made of it. Nothing more of them is whole, and they show no fault.
pub record HasRead {slots : ℕ} (r : Reading slots) (bytes : List ℕ) (feed : Feeding) (c : Checked slots) : Type 0 where
  pub read : IsReadInto r bytes feed c
  pub waits : IsWaiting r read.taken.rest

-- so it is with some reading
abbrev pub IsFedWith : {slots : ℕ} → List ℕ → Feeding → Checked slots → Type 0
IsFedWith {slots} bytes feed c = (r : Reading slots) × HasRead r bytes feed c

-- The checker was fed with these bytes. Where it wasn't refused, they show no fault, its cells are those of the base after the
-- records of the whole batches, and its fold is that of the same records. Where it was refused for damage, they show the fault
-- there. Where memory ran out, some of them may not have been read.
abbrev pub FollowsAs : {slots : ℕ} → Option FeedRefusal → List ℕ → Feeding → Checked slots → Type 0
FollowsAs None bytes feed c = IsFedWith bytes feed c
FollowsAs {slots} (Some (Damaged at)) bytes feed c = IsDamagedAt slots bytes at
FollowsAs (Some Memory) bytes feed c = ⊤

abbrev pub Follows : {slots : ℕ} → List ℕ → Checking slots → Type 0
Follows bytes s = FollowsAs s.refused bytes s.feed s.checked

-- what a checker is: it was fed with some bytes
abbrev pub IsChecker : {slots : ℕ} → Checking slots → Type 0
IsChecker s = (bytes : List ℕ) × Follows bytes s
