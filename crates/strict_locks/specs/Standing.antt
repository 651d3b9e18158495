-- How a client stands to a lock that it wants.
use Rattle.std.specs.Prelude.{◌≡◌, ℕ, Bool, true, false}
use Rattle.strict_locks.specs.declared.standing.Standing.{Standing}
use Rattle.strict_locks.specs.declared.standing.Standing.TheVariants.{Blocked, Granted, Held, Free}
use Rattle.strict_locks.specs.Locks.{IsLeast, Nobody}

-- `Blocked` names the least client that stands in the way, and all else comes only where nobody does: `Granted` where the
-- client has the lock, and else `Held` where it holds the object and `Free` where it does not
abbrev pub IsStanding : (ℕ → Type 0) → Bool → Bool → Standing → Type 0
IsStanding StandsInWay has holds (Blocked pass) = IsLeast StandsInWay pass
IsStanding StandsInWay has holds Granted = Nobody StandsInWay × (has ≡ true)
IsStanding StandsInWay has holds Held = Nobody StandsInWay × (holds ≡ true)
IsStanding StandsInWay has holds Free = Nobody StandsInWay × (holds ≡ false)
