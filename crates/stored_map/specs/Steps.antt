-- What the steps of a transaction leave of the store.
use Rattle.std.specs.Prelude.{◌≡◌, ◌⊎◌, ◌↔◌, ℕ, ◌-◌, ◌≤◌, Bool, true, false, List, [], ◌∷◌, length, None, Some}
use Rattle.plain_model.specs.declared.object.Object.{Object}
use Rattle.plain_model.specs.declared.calls.Call.TheVariants.{Commit}
use Rattle.plain_model.specs.declared.calls.Reply.{Reply}
use Rattle.plain_model.specs.declared.calls.Reply.TheVariants as reply
use Rattle.plain_model.specs.Graphs.{root, has_object}
use Rattle.plain_model.specs.Machine.{is_stored}
use Rattle.plain_model.specs.Reachable.{Reachable}
use Rattle.plain_model.specs.History.{IsId, end_of}
use Rattle.plain_laws.specs.Sound.{IsSoundGraph}
use Rattle.disk_model.specs.declared.area.Area.{Area}
use Rattle.disk_model.specs.Causes.{Rose}
use Rattle.disk_model.specs.Told.{EachImage}
use Rattle.logged_journal.specs.View.{LoggedView}
use Rattle.logged_journal.specs.Calls.{FailsCommit}
use Rattle.object_map.specs.declared.refusal.MapRefusal.{MapRefusal}
use Rattle.object_map.specs.declared.refusal.MapRefusal.TheVariants as refusal
use Rattle.object_map.specs.Seen.{held}
use Rattle.object_map.specs.Clients.{ClientView, client_at, state_of, seen, free_ids}
use Rattle.map_calls.specs.declared.failure.Failure.{Failure}
use Rattle.map_calls.specs.declared.failure.Failure.TheVariants as failure
use Rattle.map_calls.specs.Views.{StoreView}
use Rattle.stored_map.specs.Graphs.{KeepsMap, map_of}
use Rattle.stored_map.specs.Stores.{state_in, HasLimits, IsUnmarked, OpensToSame}

-- ---- why a call fails

-- the failure that a reply tells
abbrev pub failure_of : Reply → Failure
failure_of reply.Memory = failure.Memory
failure_of reply.TraceFull = failure.HistoryFull
failure_of reply.LogFull = failure.LogFull
failure_of _ = failure.Disk

-- the failure that the map's refusal tells
abbrev pub failure_in : MapRefusal → Failure
failure_in refusal.Memory = failure.Memory
failure_in (refusal.Store r) = failure_of r
failure_in (refusal.NotMap id) = failure.Disk

-- whether the refusal is that every id is stored
abbrev pub is_full : MapRefusal → Bool
is_full (refusal.Store reply.Full) = true
is_full _ = false

-- the store is marked as full exactly where that is the cause
pub record IsMarkedBy {D : Type 0} (cause : Failure) (v : LoggedView D) : Type 0 where
  pub history : (cause ≡ failure.HistoryFull) ↔ (v.journal.marks.trace ≡ true)
  pub log : (cause ≡ failure.LogFull) ↔ (v.log_full ≡ true)

-- ---- what stays

-- the committed graph, the number of ids and the limits stay, and so does the disk, of which no call failed
pub record Stays {D : Type 0} (old new : LoggedView D) : Type 0 where
  pub committed : (state_in new).committed ≡ (state_in old).committed
  pub ids : (state_in new).ids ≡ (state_in old).ids
  pub disk : new.disk ≡ old.disk
  pub running : new.failed ≡ None
  pub limits : new.journal.limits ≡ old.journal.limits

-- the marks stay
pub record KeepsMarks {D : Type 0} (old new : LoggedView D) : Type 0 where
  pub history : new.journal.marks.trace ≡ old.journal.marks.trace
  pub log : new.log_full ≡ old.log_full

-- a call was refused for want of memory or of room, and the marks tell of which room
pub record Refuses {D : Type 0} (cause : Failure) (old new : LoggedView D) : Type 0 where
  pub stays : Stays old new
  pub no_disk : cause ≡ failure.Disk → ⊥
  pub marked : IsMarkedBy cause new

-- ---- the client's transaction

-- the client works in a store that keeps a map
pub record IsAtWork {D : Type 0} (c : ClientView D) : Type 0 where
  pub number : c.number ≡ 1
  pub kept : KeepsMap (state_of c).committed
  pub sound : IsSoundGraph (state_of c).committed
  pub running : c.store.failed ≡ None
  pub unmarked : IsUnmarked c.store
  pub limits : HasLimits c.store

-- so in the store that was seen so, of which nothing is committed since
pub record IsWorking {D : Type 0} (faults : D → ℕ) (before : StoreView) (c : ClientView D) : Type 0 where
  pub at_work : IsAtWork c
  pub map : map_of (state_of c).ids (state_of c).committed ≡ before.map
  pub disk : faults c.store.disk ≡ before.faults

-- and the client's transaction has looked at most: it sees the committed graph
pub record IsLooked {D : Type 0} (faults : D → ℕ) (before : StoreView) (c : ClientView D) : Type 0 where
  pub working : IsWorking faults before c
  pub rooted : held (seen c) 0 ≡ Some root
  pub same : (seen c).graph ≡ (state_of c).committed
  pub room : free_ids (state_of c) ≡ before.room

-- calls were made that change nothing, and register 0 still holds the root
pub record OnlyLooks {D : Type 0} (old new : ClientView D) : Type 0 where
  pub graph : (seen new).graph ≡ (seen old).graph
  pub rooted : held (seen new) 0 ≡ Some root
  pub stays : Stays old.store new.store
  pub marks : KeepsMarks old.store new.store
  pub free : free_ids (state_of new) ≡ free_ids (state_of old)
  pub number : new.number ≡ old.number

-- ---- the end of a transaction

-- a commit was done: the graph that the client saw is the committed one, and no client has a transaction
pub record Commits {D : Type 0} (faults : D → ℕ) (old new : LoggedView D) : Type 0 where
  pub running : new.failed ≡ None
  pub none : (state_in new).active ≡ []
  pub committed : (state_in new).committed ≡ (seen (client_at old 1)).graph
  pub ids : (state_in new).ids ≡ (state_in old).ids
  pub free : free_ids (state_in new) ≡ free_ids (state_in old)
  pub limits : new.journal.limits ≡ old.journal.limits
  pub marks : KeepsMarks old new
  pub later : faults old.disk ≤ faults new.disk

-- a commit wasn't done: it was refused, or the disk failed it
abbrev pub LosesCommit : {D : Type 0} → (D → ℕ) → Failure → LoggedView D → LoggedView D → Type 0
LosesCommit faults cause old new = Refuses cause old new ⊎ ((cause ≡ failure.Disk) × FailsCommit faults old new 1 Commit)

-- a power loss leaves what the root reaches in the committed graph, or, where the disk failed a commit, perhaps what it reaches in the
-- graph that was asked for
abbrev pub LeavesSameThen : {D : Type 0} → (D → Area → List ℕ → Type 0) → Failure → D → ℕ → List Object → List Object → Type 0
LeavesSameThen may_leave failure.Disk disk ids committed asked = EachImage may_leave disk (λ image. OpensToSame ids committed image ⊎ OpensToSame ids asked image)
LeavesSameThen may_leave _ disk ids committed asked = EachImage may_leave disk (OpensToSame ids committed)

-- the client's commit failed, and left this
pub record FailsOn {D : Type 0} (faults : D → ℕ) (may_leave : D → Area → List ℕ → Type 0) (cause : Failure) (c : ClientView D) (now : LoggedView D) : Type 0 where
  pub disk : cause ≡ failure.Disk → Rose (faults c.store.disk) (faults now.disk)
  pub marked : IsMarkedBy cause now
  pub sound : IsSoundGraph (seen c).graph
  pub within : cause ≡ failure.Disk → (id : ℕ) → has_object (seen c).graph id ≡ true → IsId (state_of c).ids id
  pub left : LeavesSameThen may_leave cause now.disk (state_of c).ids (state_of c).committed (seen c).graph

-- ---- a loss of power

-- whatever a power loss leaves of the disk opens to a store of as many ids, in which the root reaches the same as in a graph with the map that
-- a script sees
pub record Holds {D : Type 0} (may_leave : D → Area → List ℕ → Type 0) (before : StoreView) (disk : D) : Type 0 where
  pub ids : ℕ
  pub graph : List Object
  pub map : map_of ids graph ≡ before.map
  pub keeps : KeepsMap graph
  pub sound : IsSoundGraph graph
  pub images : EachImage may_leave disk (OpensToSame ids graph)

-- ---- the collector

-- The collector worked beside no transaction: no commit came, and nothing is to be undone.
pub record Collects {D : Type 0} (old new : LoggedView D) : Type 0 where
  pub running : new.failed ≡ None
  pub disk : new.disk ≡ old.disk
  pub ids : (state_in new).ids ≡ (state_in old).ids
  pub none : (state_in new).active ≡ []
  pub opened : (end_of new.journal.history).opened ≡ (end_of old.journal.history).opened
  pub commits : (end_of new.journal.history).commits ≡ (end_of old.journal.history).commits
  pub limits : new.journal.limits ≡ old.journal.limits

-- how many entries more the history may have at most
abbrev pub entries_left : {D : Type 0} → LoggedView D → ℕ
entries_left v = v.journal.limits.trace - length v.journal.history.entries

-- just the objects are stored that the root reaches
abbrev pub IsExact : {D : Type 0} → LoggedView D → Type 0
IsExact v = (id : ℕ) → (is_stored (state_in v).stored id ≡ true) ↔ Reachable (state_in v).committed (root ∷ []) id
