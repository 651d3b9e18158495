-- What the calls of a handle do to its store.
use Rattle.std.specs.Prelude.{◌≡◌, ◌≢◌, ℕ, ◌<◌, ◌≤◌, true, false, Option, Some, None, length, IfSome, option_map}
use Rattle.std.specs.Option.{option_map_or}
use Rattle.plain_model.specs.declared.write.Place.{Place}
use Rattle.plain_model.specs.declared.calls.Call.{Call as TransactionCall}
use Rattle.plain_model.specs.declared.calls.Call.TheVariants as call
use Rattle.plain_model.specs.declared.calls.Reply.TheVariants as reply
use Rattle.plain_model.specs.Graphs.{has_object, put_object, after_set, blank}
use Rattle.plain_model.specs.Machine.{free_id}
use Rattle.gate_log.specs.State.{used}
use Rattle.logged_journal.specs.Calls.{DoesCall, FailsCommit, KeepsDisk}
use Rattle.object_store.specs.declared.error.StoreError.{StoreError}
use Rattle.object_store.specs.declared.error.StoreError.TheVariants as error
use Rattle.object_store.specs.declared.reference.Held.{Held}
use Rattle.object_store.specs.Seen.{object_slots, client, state_of, slot_in, payload_in}
use Rattle.object_store.specs.Calls.{Does, IsShortOf}
use Rattle.object_store.specs.Handles.{StoreView, graph_of, committed_of, is_live, IsClosed, held_at, Holds, StillHolds, HasRoom, IsCrowded, only_root}

-- the id of a reference, or 0 where there is none
abbrev pub id_of : Option Held → ℕ
id_of h = option_map_or (λ x. x.id) h 0

-- the register of a reference
abbrev pub register_of : Option Held → Option ℕ
register_of h = option_map (λ x. x.register) h

-- nothing that the handle sees changed: neither its graph, nor the committed one, nor what it holds
pub record Keeps {D : Type 0} (old new : StoreView D) : Type 0 where
  pub graph : graph_of new ≡ graph_of old
  pub committed : committed_of new ≡ committed_of old
  pub held : new.held ≡ old.held
  pub tending : new.tending ≡ old.tending

-- ---- the calls

-- A slot of the object was read: this is the reference that it holds, if it holds one. What is stored is as before. One that was held
-- already is held as it was.
pub record Gets {D : Type 0} (h : Held) (slot : ℕ) (found : Option Held) (old new : StoreView D) : Type 0 where
  pub value : id_of found ≡ slot_in (graph_of old) h.id slot
  pub holds : IfSome found (Holds new)
  pub graph : graph_of new ≡ graph_of old
  pub committed : committed_of new ≡ committed_of old
  pub still : StillHolds old new
  pub again : (r : ℕ) → r < 8 → held_at old.held r ≡ Some (id_of found) → new.held ≡ old.held
  pub tending : new.tending ≡ old.tending
  pub made : (into : ℕ) × Does (call.Read h.register slot into) (reply.Id (id_of found)) old.below new.below

-- the payload of the object was read, and is this; all is as before
pub record Shows {D : Type 0} (h : Held) (payload : ℕ) (old new : StoreView D) : Type 0 where
  pub value : payload ≡ payload_in (graph_of old) h.id
  pub keeps : Keeps old new
  pub made : Does (call.GetPay h.register) (reply.Pay payload) old.below new.below

-- a place of the object was set to a value, by this call below; the handle sees it, and holds what it held
pub record Sets {D : Type 0} (h : Held) (place : Place) (value : ℕ) (c : TransactionCall) (old new : StoreView D) : Type 0 where
  pub graph : graph_of new ≡ after_set h.id place value (graph_of old)
  pub committed : committed_of new ≡ committed_of old
  pub held : new.held ≡ old.held
  pub tending : new.tending ≡ old.tending
  pub made : Does c reply.Done old.below new.below

-- an object was made under an id that the graph didn't have, and the handle holds it
pub record MakesObject {D : Type 0} (h : Held) (old new : StoreView D) : Type 0 where
  pub fresh : has_object (graph_of old) h.id ≡ false
  pub named : h.id ≢ 0
  pub graph : graph_of new ≡ put_object (graph_of old) (blank object_slots h.id)
  pub committed : committed_of new ≡ committed_of old
  pub holds : Holds new h
  pub still : StillHolds old new
  pub tending : new.tending ≡ old.tending
  pub made : Does (call.Make h.register) (reply.Id h.id) old.below new.below

-- ---- why a call isn't done: in each definition the first error that applies

-- a call on an object
abbrev pub IsObjectError : {D : Type 0} → Held → TransactionCall → StoreView D → StoreError → Type 0
IsObjectError h c v error.Ended = is_live v ≡ false
IsObjectError h c v error.NotHeld = Holds v h → ⊥
IsObjectError h c v why = Holds v h × IsShortOf c why v.below

-- a read of a slot
abbrev pub IsGetError : {D : Type 0} → Held → ℕ → StoreView D → StoreError → Type 0
IsGetError h slot v error.Ended = is_live v ≡ false
IsGetError h slot v error.NotHeld = Holds v h → ⊥
IsGetError h slot v error.NoSuchSlot = Holds v h × (object_slots ≤ slot)
IsGetError h slot v error.TooManyReferences = Holds v h × (slot < object_slots) × IsCrowded v.held
IsGetError h slot v why = Holds v h × (slot < object_slots) × HasRoom v.held × ((into : ℕ) × IsShortOf (call.Read h.register slot into) why v.below)

-- a write of a slot, which is to hold this reference, or none
abbrev pub IsSetError : {D : Type 0} → Held → ℕ → Option Held → StoreView D → StoreError → Type 0
IsSetError h slot to v error.Ended = is_live v ≡ false
IsSetError h slot to v error.NotHeld = Holds v h × IfSome to (Holds v) → ⊥
IsSetError h slot to v error.NoSuchSlot = Holds v h × IfSome to (Holds v) × (object_slots ≤ slot)
IsSetError h slot to v why = Holds v h × IfSome to (Holds v) × (slot < object_slots) × IsShortOf (call.Store h.register slot (register_of to)) why v.below

-- a new object
abbrev pub IsMakeError : {D : Type 0} → StoreView D → StoreError → Type 0
IsMakeError v error.Ended = is_live v ≡ false
IsMakeError v error.TooManyReferences = IsCrowded v.held
IsMakeError v error.Full = HasRoom v.held × (free_id (state_of v.below) ≡ None)
IsMakeError v why = HasRoom v.held × ((into : ℕ) × IsShortOf (call.Make into) why v.below)

-- ---- beginning and ending

-- a transaction has begun: it sees the committed graph, and holds the root; how much of the log was in use is kept
pub record Begins {D : Type 0} (old new : StoreView D) : Type 0 where
  pub live : is_live new ≡ true
  pub graph : graph_of new ≡ committed_of old
  pub committed : committed_of new ≡ committed_of old
  pub held : new.held ≡ only_root
  pub begun : new.tending.begun ≡ used old.below.log
  pub soft_limit : new.tending.log ≡ old.tending.log
  pub steps : new.tending.steps ≡ old.tending.steps
  pub disk : KeepsDisk old.below new.below
  pub made : IsClosed old → Does call.Begin reply.Done old.below new.below

-- no transaction has begun: the disk failed a call before, or something is short; what is committed is as before
pub record FailsToBegin {D : Type 0} (why : StoreError) (old new : StoreView D) : Type 0 where
  pub stopped : why ≡ error.Stopped → old.below.failed ≢ None
  pub only_stopped : old.below.failed ≢ None → why ≡ error.Stopped
  pub cause : why ≢ error.Stopped → IsClosed old → IsShortOf call.Begin why old.below
  pub closed : why ≢ error.Stopped → IsClosed new
  pub committed : committed_of new ≡ committed_of old
  pub tending : new.tending ≡ old.tending
  pub disk : KeepsDisk old.below new.below

-- the transaction was ended without its writes: what is committed is as before, and so is the disk
pub record Aborts {D : Type 0} (old new : StoreView D) : Type 0 where
  pub closed : IsClosed new
  pub committed : committed_of new ≡ committed_of old
  pub running : new.below.failed ≡ None
  pub tending : new.tending ≡ old.tending
  pub disk : KeepsDisk old.below new.below

-- the transaction was committed: what it saw is committed now, and durable
pub record Commits {D : Type 0} (old new : StoreView D) : Type 0 where
  pub closed : IsClosed new
  pub committed : committed_of new ≡ graph_of old
  pub durable : new.below.durable ≡ length new.below.journal.notes
  pub running : new.below.failed ≡ None
  pub tending : new.tending ≡ old.tending
  pub made : DoesCall object_slots old.below.journal new.below.journal client call.Commit reply.Done

-- The commit failed. No transaction was open. Or the disk failed a call: the store is stopped, and the next opening finds whether the
-- writes are there. Or the history or the log was full, and the transaction was aborted.
abbrev pub FailsToCommit : {D : Type 0} → (D → ℕ) → StoreView D → StoreView D → StoreError → Type 0
FailsToCommit faults old new error.Ended = (is_live old ≡ false) × (new ≡ old)
FailsToCommit faults old new error.Disk = FailsCommit faults old.below new.below client call.Commit
FailsToCommit faults old new why = IsShortOf call.Commit why old.below × Aborts old new

-- ---- a reference that is let go

-- The object was let go, unless it is the root: its register is known to hold nothing. What the handle sees and what it holds besides
-- is as before.
pub record Forgets {D : Type 0} (h : Held) (old new : StoreView D) : Type 0 where
  pub below : new.below ≡ old.below
  pub tending : new.tending ≡ old.tending
  pub gone : h.register ≢ 0 → Holds new h → ⊥
  pub room : h.register ≢ 0 → Holds old h → HasRoom new.held
  pub others : (r : ℕ) → r ≢ h.register → held_at new.held r ≡ held_at old.held r
  pub root : held_at new.held 0 ≡ held_at old.held 0
