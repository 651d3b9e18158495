-- What the client's calls at the store below come to.
use Rattle.std.specs.Prelude.{◌≡◌, ◌≢◌, ℕ, ◌<◌, List, Option, Some, None, true, false}
use Rattle.plain_model.specs.declared.object.Object.{Object}
use Rattle.plain_model.specs.declared.calls.Call.{Call as TransactionCall}
use Rattle.plain_model.specs.declared.calls.Call.TheVariants as call
use Rattle.plain_model.specs.declared.calls.Reply.{Reply}
use Rattle.plain_model.specs.declared.calls.Reply.TheVariants as reply
use Rattle.plain_model.specs.Graphs.{has_object, put_object, blank}
use Rattle.plain_model.specs.Machine.{step, nonzero, free_id}
use Rattle.core_store.specs.Limited.{is_past_limit}
use Rattle.core_store.specs.Owed.{entries_needed}
use Rattle.logged_journal.specs.View.{LoggedView}
use Rattle.logged_journal.specs.Calls.{DoesCall, GoesOn, KeepsDisk, IsPastLog}
use Rattle.object_store.specs.declared.error.StoreError.{StoreError}
use Rattle.object_store.specs.declared.error.StoreError.TheVariants as error
use Rattle.object_store.specs.declared.reference.Held.{Held}
use Rattle.object_store.specs.Seen.{object_slots, client, state_of, graph_in, register_in, slot_in, payload_in}

-- The store below did the client's call and answered so: the reference machine steps from the state before to the state after, and
-- the journal, its log and its disk go on as they do at such a call.
pub record Does {D : Type 0} (c : TransactionCall) (answer : Reply) (old new : LoggedView D) : Type 0 where
  pub machine : step (state_of old) client c ≡ (answer, state_of new)
  pub does : DoesCall object_slots old.journal new.journal client c answer
  pub goes_on : GoesOn old new
  pub disk : KeepsDisk old new

-- what is short at a call that isn't done: memory, room in the history, or room in the log
abbrev pub IsShortOf : {D : Type 0} → TransactionCall → StoreError → LoggedView D → Type 0
IsShortOf c error.Memory v = Unit {0}
IsShortOf c error.HistoryFull v = is_past_limit v.journal (entries_needed c) ≡ true
IsShortOf c error.LogFull v = IsPastLog v client c
IsShortOf c _ v = ⊥

-- The store below didn't do the call, since something was short. The reference machine and the disk are as before.
pub record IsShort {D : Type 0} (c : TransactionCall) (why : StoreError) (old new : LoggedView D) : Type 0 where
  pub cause : IsShortOf c why old
  pub same : state_of new ≡ state_of old
  pub disk : KeepsDisk old new

-- the register has the object, of which it is told
pub record IsIn {D : Type 0} (v : LoggedView D) (h : Held) : Type 0 where
  pub small : h.register < 8
  pub named : register_in (state_of v) h.register ≡ Some h.id

-- neither the graph that is seen nor the committed one changed
pub record SeesSame {D : Type 0} (old new : LoggedView D) : Type 0 where
  pub graph : graph_in (state_of new) ≡ graph_in (state_of old)
  pub committed : (state_of new).committed ≡ (state_of old).committed

-- what the registers hold changed at most here, where this is now
pub record Loads {D : Type 0} (into : ℕ) (id : Option ℕ) (old new : LoggedView D) : Type 0 where
  pub here : register_in (state_of new) into ≡ id
  pub others : (r : ℕ) → r ≢ into → register_in (state_of new) r ≡ register_in (state_of old) r

-- a slot of the object was read into a register, and it holds this
pub record Reads {D : Type 0} (h : Held) (slot into id : ℕ) (old new : LoggedView D) : Type 0 where
  pub does : Does (call.Read h.register slot into) (reply.Id id) old new
  pub value : id ≡ slot_in (graph_in (state_of old)) h.id slot
  pub same : SeesSame old new
  pub loads : Loads into (nonzero id) old new

-- the payload of the object was read, and is this
pub record Looks {D : Type 0} (h : Held) (payload : ℕ) (old new : LoggedView D) : Type 0 where
  pub does : Does (call.GetPay h.register) (reply.Pay payload) old new
  pub value : payload ≡ payload_in (graph_in (state_of old)) h.id
  pub same : SeesSame old new
  pub registers : (r : ℕ) → register_in (state_of new) r ≡ register_in (state_of old) r

-- a write was done: the graph that is seen is this one now
pub record Writes {D : Type 0} (c : TransactionCall) (written : List Object) (old new : LoggedView D) : Type 0 where
  pub does : Does c reply.Done old new
  pub graph : graph_in (state_of new) ≡ written
  pub committed : (state_of new).committed ≡ (state_of old).committed
  pub registers : (r : ℕ) → register_in (state_of new) r ≡ register_in (state_of old) r

-- a new object was made under an id that the graph doesn't have, which a register holds now
pub record Makes {D : Type 0} (into id : ℕ) (old new : LoggedView D) : Type 0 where
  pub does : Does (call.Make into) (reply.Id id) old new
  pub fresh : has_object (graph_in (state_of old)) id ≡ false
  pub named : id ≢ 0
  pub graph : graph_in (state_of new) ≡ put_object (graph_in (state_of old)) (blank object_slots id)
  pub committed : (state_of new).committed ≡ (state_of old).committed
  pub loads : Loads into (Some id) old new

-- every id of the store is stored, so that no object can be made
pub record IsFull {D : Type 0} (into : ℕ) (old new : LoggedView D) : Type 0 where
  pub does : Does (call.Make into) reply.Full old new
  pub none : free_id (state_of old) ≡ None
  pub same : state_of new ≡ state_of old

-- why no object was made
abbrev pub IsMakeShort : {D : Type 0} → ℕ → StoreError → LoggedView D → LoggedView D → Type 0
IsMakeShort into error.Full old new = IsFull into old new
IsMakeShort into why old new = IsShort (call.Make into) why old new

-- ---- how a call is heard

-- a call that neither begins nor ends a transaction
abbrev pub IsInside : TransactionCall → Type 0
IsInside call.Begin = ⊥
IsInside call.Commit = ⊥
IsInside call.Abort = ⊥
IsInside _ = Unit {0}

-- a reply of a store of which the disk failed no call
abbrev pub IsOfLive : Reply → Type 0
IsOfLive (reply.Stopped faults) = ⊥
IsOfLive reply.DiskFault = ⊥
IsOfLive _ = Unit {0}

-- a reply that something is short, which enters no history
abbrev pub IsWant : Reply → Type 0
IsWant reply.Memory = Unit {0}
IsWant reply.TraceFull = Unit {0}
IsWant reply.LogFull = Unit {0}
IsWant _ = ⊥

-- the error for such a reply
abbrev pub error_of : Reply → StoreError
error_of reply.TraceFull = error.HistoryFull
error_of reply.LogFull = error.LogFull
error_of _ = error.Memory
