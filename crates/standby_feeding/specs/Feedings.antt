-- A standby that is fed from a source.
use Rattle.std.specs.Prelude.{◌≡◌, ◌⊎◌, ℕ, ◌≤◌, List, ◌++◌, length, Option, Some, None, Result, Ok, IfOk, OnOk, IsErrOf}
use Rattle.std.specs.Io.KnownBytes.{Consumes, IsAtEnd}
use Rattle.disk_model.specs.Causes.{Rose}
use Rattle.ship_stream.specs.declared.stage.Stage.TheVariants.{Ended}
use Rattle.ship_stream.specs.declared.refusal.FeedRefusal.TheVariants.{Damaged as IsDamaged}
use Rattle.standby.specs.Following.{Following}
use Rattle.standby.specs.Damage.{IsDamagedAt}
use Rattle.standby.specs.Feeds.{Follows}
use Rattle.standby_feeding.specs.declared.fault.FeedFault.{FeedFault}
use Rattle.standby_feeding.specs.declared.fault.FeedFault.TheVariants.{Read, Damaged}
use Rattle.standby_feeding.specs.declared.feeding.Fed.{Fed}
use Rattle.standby_feeding.specs.declared.feeding.Fed.TheVariants.{More, Whole}
use Rattle.standby_feeding.specs.Streams.{AreBytes, IsReadThrough}

-- The source gave these bytes, and the standby was fed with them.
pub record HasFed {slots : ℕ} (before now : Option (List ℕ)) (old new : Following slots) (result : Result Fed FeedFault) : Type 0 where
  pub bytes : List ℕ
  pub consumed : Consumes before now bytes
  pub typed : AreBytes bytes
  pub follows : («front» : List ℕ) → Follows «front» old → Follows («front» ++ bytes) new
  pub more : result ≡ Ok More → (1 ≤ length bytes) × (new.refused ≡ None) × (new.feed.stage ≡ Ended → ⊥)
  -- the closed commit byte came, or the source is at its end
  pub whole : result ≡ Ok Whole → (new.refused ≡ None) × ((new.feed.stage ≡ Ended) ⊎ IsAtEnd now)
  pub damaged : (at : ℕ) → IsErrOf result (Damaged at) → new.refused ≡ Some (IsDamaged at)

-- So it was with all that the source gave, up to its end or to the closed commit byte, unless the standby was refused or a read failed.
pub record FeedsAll {slots : ℕ} {T : Type 0} (before now : Option (List ℕ)) (s : Following slots) (result : Result T FeedFault) : Type 0 where
  pub bytes : List ℕ
  pub consumed : Consumes before now bytes
  pub follows : Follows bytes s
  pub whole : OnOk result ((s.refused ≡ None) × ((s.feed.stage ≡ Ended) ⊎ IsAtEnd now))
  pub damaged : (at : ℕ) → IsErrOf result (Damaged at) → s.refused ≡ Some (IsDamaged at)

-- The standby was fed with these bytes and not refused, and the source that gave them was read through.
pub record IsFedWhole (slots : ℕ) (now : Option (List ℕ)) (bytes : List ℕ) (s : Following slots) : Type 0 where
  pub follows : Follows bytes s
  pub unrefused : s.refused ≡ None
  pub through : IsReadThrough slots now bytes

-- The source gave these bytes, and a standby was fed with them, or they show a fault.
pub record HasFedFrom (slots : ℕ) (before now : Option (List ℕ)) (result : Result (Following slots) FeedFault) : Type 0 where
  pub bytes : List ℕ
  pub consumed : Consumes before now bytes
  pub fed : IfOk result (IsFedWhole slots now bytes)
  pub damaged : (at : ℕ) → IsErrOf result (Damaged at) → IsDamagedAt slots bytes at

-- The source's count of faults never falls. It rose where a read failed, and is as before at each other answer.
pub record HasFeedCause {T : Type 0} (before now : ℕ) (result : Result T FeedFault) : Type 0 where
  pub later : before ≤ now
  pub failed : IsErrOf result Read → Rose before now
  pub kept : (IsErrOf result Read → ⊥) → now ≡ before
