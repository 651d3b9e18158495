-- What becomes of the locks once a borrow of one of them ends.
use Rattle.std.specs.Prelude.{ℕ, Option, nat_eq}
use Rattle.std.specs.Borrow.{Fml, MutBor, LendsIf}
use Rattle.std.specs.Map.{set_value}
use Rattle.strict_locks.specs.Locks.{Table, Holders}
use Rattle.strict_locks.specs.contracts.object_lock.ObjectLock as of_one
use Rattle.strict_locks.specs.contracts.rows.LockRows as of_all

-- the object's lock ends as what was left there, and the others stay
abbrev pub LendsLock : MutBor Table → ℕ → Option (MutBor Holders) → Fml
LendsLock s id r = LendsIf of_all.the_row of_one.the_row s r (λ h. set_value (nat_eq id) s.now h) s.now
