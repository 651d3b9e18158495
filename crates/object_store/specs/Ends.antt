-- How a transaction of the client begins and ends at the store below.
use Rattle.std.specs.Prelude.{◌≡◌, ◌≢◌, ℕ, None, length}
use Rattle.plain_model.specs.declared.calls.Call.TheVariants as call
use Rattle.plain_model.specs.declared.calls.Reply.TheVariants as reply
use Rattle.logged_journal.specs.View.{LoggedView}
use Rattle.logged_journal.specs.Calls.{DoesCall, FailsCommit, KeepsDisk, GoesOn}
use Rattle.object_store.specs.declared.error.StoreError.{StoreError}
use Rattle.object_store.specs.declared.error.StoreError.TheVariants as error
use Rattle.object_store.specs.Seen.{object_slots, client, state_of, graph_in, register_in, IsQuiet, IsLive}
use Rattle.object_store.specs.Calls.{Does, IsShort, IsShortOf}
use Rattle.object_store.specs.Handles.{held_at, only_root}

-- what was open was ended without its writes, unless the disk failed a call before; where nothing was open, nothing was done
pub record Ends {D : Type 0} (old new : LoggedView D) : Type 0 where
  pub quiet : old.failed ≡ None → IsQuiet (state_of new)
  pub committed : (state_of new).committed ≡ (state_of old).committed
  pub failed : new.failed ≡ old.failed
  pub disk : KeepsDisk old new
  pub same : IsQuiet (state_of old) → new ≡ old

-- the transaction has begun: it sees what is committed, and register 0 has the root
pub record HasBegun {D : Type 0} (old new : LoggedView D) : Type 0 where
  pub does : Does call.Begin reply.Done old new
  pub live : IsLive new
  pub graph : graph_in (state_of new) ≡ (state_of old).committed
  pub committed : (state_of new).committed ≡ (state_of old).committed
  pub registers : (r : ℕ) → register_in (state_of new) r ≡ held_at only_root r

-- it has not: the disk failed a call before, or something is short
abbrev pub HasNotBegun : {D : Type 0} → StoreError → LoggedView D → LoggedView D → Type 0
HasNotBegun error.Stopped old new = (old.failed ≢ None) × (new ≡ old)
HasNotBegun why old new = (old.failed ≡ None) × (new.failed ≡ None) × IsShort call.Begin why old new

-- it was committed, for good
pub record HasCommitted {D : Type 0} (old new : LoggedView D) : Type 0 where
  pub does : DoesCall object_slots old.journal new.journal client call.Commit reply.Done
  pub goes_on : GoesOn old new
  pub quiet : IsQuiet (state_of new)
  pub committed : (state_of new).committed ≡ graph_in (state_of old)
  pub durable : new.durable ≡ length new.journal.notes
  pub running : new.failed ≡ None

-- it was not: the disk failed it, or something was short and it was ended without its writes
abbrev pub HasNotCommitted : {D : Type 0} → (D → ℕ) → StoreError → LoggedView D → LoggedView D → Type 0
HasNotCommitted faults error.Disk old new = FailsCommit faults old new client call.Commit
HasNotCommitted faults why old new = IsShortOf call.Commit why old × Ends old new
