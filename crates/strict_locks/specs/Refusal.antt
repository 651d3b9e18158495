-- Why a lock is refused.
use Rattle.std.specs.Prelude.{ℕ}
use Rattle.strict_locks.specs.declared.refusal.LockRefusal.{LockRefusal}
use Rattle.strict_locks.specs.declared.refusal.LockRefusal.TheVariants.{Busy, Memory}
use Rattle.strict_locks.specs.Locks.{IsLeast, Nobody}

-- `Busy` names the least client that stands in the way, and `Memory` comes only where nobody does
abbrev pub IsRefusal : (ℕ → Type 0) → LockRefusal → Type 0
IsRefusal StandsInWay (Busy pass) = IsLeast StandsInWay pass
IsRefusal StandsInWay Memory = Nobody StandsInWay
