-- A checker that is fed from a source.
use Rattle.std.specs.Prelude.{◌≡◌, ◌⊎◌, ℕ, ◌≤◌, List, ◌++◌, length, Option, Some, None, Result, Ok, IfOk, OnOk, IsErrOf}
use Rattle.std.specs.Io.KnownBytes.{Consumes, IsAtEnd}
use Rattle.ship_stream.specs.declared.stage.Stage.TheVariants.{Ended}
use Rattle.ship_stream.specs.declared.refusal.FeedRefusal.TheVariants.{Damaged as IsDamaged}
use Rattle.standby.specs.Damage.{IsDamagedAt}
use Rattle.standby_feeding.specs.declared.fault.FeedFault.{FeedFault}
use Rattle.standby_feeding.specs.declared.fault.FeedFault.TheVariants.{Damaged}
use Rattle.standby_feeding.specs.Streams.{AreBytes, IsReadThrough}
use Rattle.log_checker.specs.Checking.{Checking}
use Rattle.log_checker.specs.Feeds.{Follows}
use Rattle.log_checking.specs.declared.feeding.Fed.{Fed}
use Rattle.log_checking.specs.declared.feeding.Fed.TheVariants.{More, Whole}

-- The source gave these bytes, and the checker was fed with them.
pub record HasFed {slots : ℕ} (before now : Option (List ℕ)) (old new : Checking slots) (result : Result Fed FeedFault) : Type 0 where
  pub bytes : List ℕ
  pub consumed : Consumes before now bytes
  pub typed : AreBytes bytes
  pub follows : («front» : List ℕ) → Follows «front» old → Follows («front» ++ bytes) new
  pub more : result ≡ Ok More → (1 ≤ length bytes) × (new.refused ≡ None) × (new.feed.stage ≡ Ended → ⊥)
  -- the closed commit byte came, or the source is at its end
  pub whole : result ≡ Ok Whole → (new.refused ≡ None) × ((new.feed.stage ≡ Ended) ⊎ IsAtEnd now)
  pub damaged : (at : ℕ) → IsErrOf result (Damaged at) → new.refused ≡ Some (IsDamaged at)

-- So it was with all that the source gave, up to its end or to the closed commit byte, unless the checker was refused or a read failed.
pub record FeedsAll {slots : ℕ} {T : Type 0} (before now : Option (List ℕ)) (s : Checking slots) (result : Result T FeedFault) : Type 0 where
  pub bytes : List ℕ
  pub consumed : Consumes before now bytes
  pub follows : Follows bytes s
  pub whole : OnOk result ((s.refused ≡ None) × ((s.feed.stage ≡ Ended) ⊎ IsAtEnd now))
  pub damaged : (at : ℕ) → IsErrOf result (Damaged at) → s.refused ≡ Some (IsDamaged at)

-- The checker was fed with these bytes and not refused, and the source that gave them was read through.
pub record IsFedWhole (slots : ℕ) (now : Option (List ℕ)) (bytes : List ℕ) (s : Checking slots) : Type 0 where
  pub follows : Follows bytes s
  pub unrefused : s.refused ≡ None
  pub through : IsReadThrough slots now bytes

-- The source gave these bytes, and a checker was fed with them, or they show a fault.
pub record HasFedFrom (slots : ℕ) (before now : Option (List ℕ)) (result : Result (Checking slots) FeedFault) : Type 0 where
  pub bytes : List ℕ
  pub consumed : Consumes before now bytes
  pub fed : IfOk result (IsFedWhole slots now bytes)
  pub damaged : (at : ℕ) → IsErrOf result (Damaged at) → IsDamagedAt slots bytes at
