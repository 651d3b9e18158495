-- A store that makes checkpoints and collects by itself.
use Rattle.std.specs.Prelude.{◌≡◌, ℕ, ◌+◌, ◌-◌, ◌<◌, max, List}
use Rattle.plain_model.specs.declared.calls.Call.{Call as TransactionCall}
use Rattle.plain_model.specs.History.{end_of, SameReachable}
use Rattle.disk_model.specs.declared.area.Area.{Area}
use Rattle.gate_log.specs.State.{used}
use Rattle.core_store.specs.Owed.{bytes_needed, bytes_owed}
use Rattle.object_store.specs.declared.error.StoreError.{StoreError}
use Rattle.object_store.specs.declared.error.StoreError.TheVariants as error
use Rattle.object_store.specs.Ends.{Ends}
use Rattle.object_store.specs.Handles.{StoreView, graph_of, committed_of, IsClosed}
use Rattle.object_store.specs.Steps.{Begins, FailsToBegin, Commits}
use Rattle.object_store.specs.Upkeep.{OnlyRemoves, waiting_of, CollectsUpTo, CollectsShort, FailsToCheckpoint, soft_limit, Readies}

-- ---- beginning

-- a transaction that was left open was ended, without its writes
pub record EndsLeft {D : Type 0} (old new : StoreView D) : Type 0 where
  pub ends : Ends old.below new.below
  pub tending : new.tending ≡ old.tending

-- A transaction has begun at a store where what was left open was ended, and which was made ready then. It sees what was committed.
pub record Starts {D : Type 0} (may_leave : D → Area → List ℕ → Type 0) (old new : StoreView D) : Type 0 where
  pub graph : graph_of new ≡ committed_of old
  pub committed : committed_of new ≡ committed_of old
  pub ended : StoreView D
  pub ends : EndsLeft old ended
  pub ready : StoreView D
  pub readies : Readies may_leave ended ready
  pub begins : Begins ready new

-- the log has no room for the beginning of a transaction, which is nine bytes, even where no more than the soft limit is in use
abbrev pub HasNoRoom : {D : Type 0} → StoreView D → Type 0
HasNoRoom v = v.below.journal.limits.log < max 15 (soft_limit v) + 9

-- No transaction has begun: the store was not made ready, or it was and the transaction did not begin.
pub data FailsToStart {D : Type 0} (faults : D → ℕ) (may_leave : D → Area → List ℕ → Type 0) (why : StoreError) (old new : StoreView D) : Type 0 where
  unready : (ended : StoreView D) → EndsLeft old ended → soft_limit ended < used ended.below.log → FailsToCheckpoint faults why ended new → FailsToStart faults may_leave why old new
  refused : (ended ready : StoreView D) → EndsLeft old ended → Readies may_leave ended ready → FailsToBegin why ready new → (why ≡ error.LogFull → HasNoRoom ready) → FailsToStart faults may_leave why old new

-- ---- a transaction for which the log has no room

-- how many bytes of the log the open transaction accounts for: those that were logged since it began, and those that it owes
abbrev pub own_bytes : {D : Type 0} → StoreView D → ℕ
own_bytes v = used v.below.log - v.tending.begun + bytes_owed (end_of v.below.journal.history)

-- The transaction alone is too long for the log: its own bytes and those that the call needs are more than the limit of the log has
-- beside what may be in use where one begins.
abbrev pub IsTooLong : {D : Type 0} → StoreView D → TransactionCall → Type 0
IsTooLong v c = v.below.journal.limits.log < max 15 (soft_limit v) + own_bytes v + bytes_needed c

-- ---- committing

-- the collector made so many steps, or fewer where no object waits any more, or where something is short
pub data CollectsAfter {D : Type 0} (steps : ℕ) (old new : StoreView D) : Type 0 where
  made : CollectsUpTo steps (waiting_of new) old new → CollectsAfter steps old new
  short : (why : StoreError) → CollectsShort steps why old new → CollectsAfter steps old new

-- The transaction was committed, and then the collector made some steps. What is committed now is what the transaction saw, but for
-- objects that the root doesn't reach.
pub record CommitsAndCollects {D : Type 0} (old new : StoreView D) : Type 0 where
  pub closed : IsClosed new
  pub reach : SameReachable (committed_of new) (graph_of old)
  pub removes : OnlyRemoves (graph_of old) (committed_of new)
  pub committed : StoreView D
  pub commits : Commits old committed
  pub collects : CollectsAfter old.tending.steps committed new
