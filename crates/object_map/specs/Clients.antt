-- A client alone at a store, and what its calls there do.
use Rattle.std.specs.Prelude.{◌≡◌, ◌≤◌, ◌<◌, ℕ, ◌+◌, ◌-◌, ◌++◌, zero, suc, Bool, true, false, if◌then◌else◌, List, [], ◌∷◌, ◌⊎◌, Some, None}
use Rattle.std.specs.List.{AllByRecursion}
use Rattle.plain_model.specs.declared.calls.Call.{Call as TransactionCall}
use Rattle.plain_model.specs.declared.calls.Call.TheVariants as call
use Rattle.plain_model.specs.declared.calls.Reply.{Reply}
use Rattle.plain_model.specs.declared.calls.Reply.TheVariants as reply
use Rattle.plain_model.specs.Machine.{State, is_stored}
use Rattle.plain_model.specs.History.{end_of}
use Rattle.logged_journal.specs.View.{LoggedView, KeepsLog}
use Rattle.logged_journal.specs.Calls.{IsOfJournal, IsPastLog, DoesCall, KeepsDisk, GoesOn}
use Rattle.object_map.specs.declared.refusal.MapRefusal.{MapRefusal}
use Rattle.object_map.specs.declared.refusal.MapRefusal.TheVariants as refusal
use Rattle.object_map.specs.Seen.{Seen, seen_of, held, IsAlone}

-- each object of the store has so many slots
abbrev pub object_slots : ℕ
object_slots = 14

-- a client, by its number, and the store at which it is alone
pub record ClientView (D : Type 0) : Type 0 where
  pub store : LoggedView D
  pub number : ℕ

-- the client of this number at this store
abbrev pub client_at : {D : Type 0} → LoggedView D → ℕ → ClientView D
client_at store number = record { store = store; number = number }

-- the state of the reference machine at the end of the store's history
abbrev pub state_of : {D : Type 0} → ClientView D → State
state_of v = (end_of v.store.journal.history).state

-- what the client's transaction sees, and its registers
abbrev pub seen : {D : Type 0} → ClientView D → Seen
seen v = seen_of (state_of v) v.number

-- the client has a transaction, which isn't aborting; no other client has one, and the disk failed no call
pub record IsClient {D : Type 0} (store : LoggedView D) (number : ℕ) : Type 0 where
  pub some : 1 ≤ number
  pub few : number ≤ 64
  pub running : store.failed ≡ None
  pub alone : IsAlone (end_of store.journal.history).state number

-- ---- calls

-- a call that changes no object
abbrev pub is_look : TransactionCall → Bool
is_look (call.Read r slot into) = true
is_look (call.GetPay r) = true
is_look (call.Release r) = true
is_look _ = false

-- a call that neither begins nor ends a transaction
abbrev pub IsInside : TransactionCall → Type 0
IsInside call.Begin = ⊥
IsInside call.Commit = ⊥
IsInside call.Abort = ⊥
IsInside _ = Unit {0}

-- a call that makes an object
abbrev pub IsMake : TransactionCall → Type 0
IsMake (call.Make into) = Unit {0}
IsMake _ = ⊥

-- whether the call makes an object
abbrev pub is_make : TransactionCall → Bool
is_make (call.Make into) = true
is_make _ = false

-- how many of so many ids, from this one on, aren't stored
abbrev pub free_among : List ℕ → ℕ → ℕ → ℕ
free_among stored id zero = 0
free_among stored id (suc n) = if is_stored stored id then free_among stored (id + 1) n else suc (free_among stored (id + 1) n)

-- how many ids of the store are free
abbrev pub free_ids : State → ℕ
free_ids s = free_among s.stored 1 s.ids

-- the reply of a call that was done
abbrev pub IsGranted : Reply → Type 0
IsGranted reply.Done = Unit {0}
IsGranted (reply.Id id) = Unit {0}
IsGranted (reply.Pay payload) = Unit {0}
IsGranted _ = ⊥

-- why a call of a client alone isn't done: there is no memory or no room, or an object is to be made and every id is stored
abbrev pub IsCause : TransactionCall → Reply → Type 0
IsCause c reply.Memory = Unit {0}
IsCause c reply.TraceFull = Unit {0}
IsCause c reply.LogFull = Unit {0}
IsCause c reply.Full = IsMake c
IsCause c _ = ⊥

-- the map's refusal for such a reply
abbrev pub refusal_for : Reply → MapRefusal
refusal_for reply.Memory = refusal.Memory
refusal_for r = refusal.Store r

-- a reply that tells of no other hold, of no call that the disk failed before, and of no commit that it failed
abbrev pub IsOfAlone : Reply → Type 0
IsOfAlone (reply.Again word seat) = ⊥
IsOfAlone (reply.Stopped faults) = ⊥
IsOfAlone reply.DiskFault = ⊥
IsOfAlone _ = Unit {0}

-- a reply that enters no history, since there is no memory or no room
abbrev pub IsWant : Reply → Type 0
IsWant reply.Memory = Unit {0}
IsWant reply.TraceFull = Unit {0}
IsWant reply.LogFull = Unit {0}
IsWant _ = ⊥

-- the store was asked this call of the client, and answered so
pub record IsAsked {D : Type 0} (old : ClientView D) (c : TransactionCall) (r : Reply) (new : ClientView D) : Type 0 where
  pub number : new.number ≡ old.number
  pub inside : IsInside c
  pub does : IsOfJournal r → DoesCall object_slots old.store.journal new.store.journal old.number c r
  pub goes_on : IsOfJournal r → GoesOn old.store new.store
  pub log_full : r ≡ reply.LogFull → IsPastLog old.store old.number c
  pub log_marked : r ≡ reply.LogFull → new.store ≡ record old.store { log_full = true }
  pub kept : (r ≡ reply.TraceFull) ⊎ (r ≡ reply.Memory) → KeepsLog old.store new.store
  pub disk : KeepsDisk old.store new.store

-- ---- several calls

-- the calls were asked one after another, each with its reply
abbrev pub Run : {D : Type 0} → List (TransactionCall × Reply) → ClientView D → ClientView D → Type 0
Run [] v w = w ≡ v
Run (e ∷ es) v w = (m : ClientView _) × (IsAsked v e.0 e.1 m × Run es m w)

-- how many of the calls change no object
abbrev pub looks_in : List (TransactionCall × Reply) → ℕ
looks_in [] = 0
looks_in (e ∷ es) = if is_look e.0 then suc (looks_in es) else looks_in es

-- those that change one, in order
abbrev pub changes_in : List (TransactionCall × Reply) → List TransactionCall
changes_in [] = []
changes_in (e ∷ es) = if is_look e.0 then changes_in es else e.0 ∷ changes_in es

-- how many of the calls make an object
abbrev pub makes_in : List TransactionCall → ℕ
makes_in [] = 0
makes_in (c ∷ cs) = if is_make c then suc (makes_in cs) else makes_in cs

-- each call was done
abbrev pub AreGranted : List (TransactionCall × Reply) → Type 0
AreGranted es = AllByRecursion (λ e. IsGranted e.1) es

-- Calls were done: at most so many that change no object, and just these that change one, in this order. Register 0 holds what it held, and
-- each object that was made took one free id.
pub record Asks {D : Type 0} (looks : ℕ) (changes : List TransactionCall) (old new : ClientView D) : Type 0 where
  pub made : List (TransactionCall × Reply)
  pub run : Run made old new
  pub granted : AreGranted made
  pub few : looks_in made ≤ looks
  pub changes_are : changes_in made ≡ changes
  pub rooted : held (seen new) 0 ≡ held (seen old) 0
  pub free : free_ids (state_of new) + makes_in changes ≡ free_ids (state_of old)

-- The store refused a call, after others that were done, and the map's refusal tells why. Register 0 holds what it held.
pub record Fails {D : Type 0} (why : MapRefusal) (old new : ClientView D) : Type 0 where
  pub made : List (TransactionCall × Reply)
  pub before : ClientView D
  pub call : TransactionCall
  pub answer : Reply
  pub run : Run made old before
  pub granted : AreGranted made
  pub last : IsAsked before call answer new
  pub cause : IsCause call answer
  pub told : why ≡ refusal_for answer
  pub rooted : held (seen new) 0 ≡ held (seen old) 0

-- the refusal that every id is stored
abbrev pub no_id : MapRefusal
no_id = refusal.Store reply.Full

-- The same, where these calls were to make at most so many objects: that every id is stored comes only where fewer are free.
pub record Falls {D : Type 0} (ids : ℕ) (why : MapRefusal) (old new : ClientView D) : Type 0 where
  pub fails : Fails why old new
  pub short : why ≡ no_id → free_ids (state_of old) < ids

-- ---- which calls change the map

-- the writes that make a leaf of the new object in register 3, with that in register 4 as its cell
abbrev pub leaf_writes : ℕ → ℕ → List TransactionCall
leaf_writes key value = call.SetPay 4 value ∷ call.SetPay 3 key ∷ call.Store 3 2 (Some 4) ∷ []

-- the calls that make a leaf with its cell: both objects are made before anything is written
abbrev pub leaf_calls : ℕ → ℕ → List TransactionCall
leaf_calls key value = call.Make 4 ∷ call.Make 3 ∷ leaf_writes key value

-- the writes that make an inner object of the new object in register 5: over the leaf in register 3, on this side, and what register 1 holds
abbrev pub inner_writes : ℕ → ℕ → List TransactionCall
inner_writes bit side = call.SetPay 5 bit ∷ call.Store 5 side (Some 3) ∷ call.Store 5 (1 - side) (Some 1) ∷ []

-- the calls that make a leaf and an inner object over it and what register 1 holds: all three objects are made before anything is written
abbrev pub fork_calls : ℕ → ℕ → ℕ → ℕ → List TransactionCall
fork_calls key value bit side = call.Make 4 ∷ call.Make 3 ∷ call.Make 5 ∷ (leaf_writes key value ++ inner_writes bit side)
