-- The collector and checkpoints, which work where no transaction is open.
use Rattle.std.specs.Prelude.{◌≡◌, ◌≢◌, ◌↔◌, ℕ, ◌+◌, ◌<◌, ◌≤◌, max, true, List, [], ◌∷◌, length, None, Some}
use Rattle.plain_model.specs.declared.object.Object.{Object}
use Rattle.plain_model.specs.Graphs.{root, object_at}
use Rattle.plain_model.specs.Machine.{is_stored}
use Rattle.plain_model.specs.Reachable.{Reachable}
use Rattle.plain_model.specs.History.{end_of, SameReachable}
use Rattle.disk_model.specs.declared.area.Area.{Area}
use Rattle.disk_model.specs.Areas.{Bytes}
use Rattle.disk_model.specs.Told.{EachImage}
use Rattle.cell_model.specs.Cells.{Cell}
use Rattle.cell_model.specs.Graph.{graph_of as graph_of_cells}
use Rattle.gate_log.specs.State.{used, other_log}
use Rattle.opened_images.specs.Opened.{Opened, OpensTo}
use Rattle.core_store.specs.JournalView.{cells_of}
use Rattle.core_store.specs.Limited.{is_past_limit}
use Rattle.core_store.specs.RoundView.{ids_in}
use Rattle.logged_journal.specs.View.{LoggedView}
use Rattle.logged_journal.specs.Calls.{KeepsDisk, IsPastLogToCollect}
use Rattle.logged_journal.specs.Upkeep.{IsPastLogToTurn, IsTurned, Turns, FailsUpkeep}
use Rattle.object_store.specs.declared.error.StoreError.{StoreError}
use Rattle.object_store.specs.declared.error.StoreError.TheVariants as error
use Rattle.object_store.specs.Seen.{object_slots, state_of, IsQuiet}
use Rattle.object_store.specs.Ends.{Ends}
use Rattle.object_store.specs.Handles.{StoreView, committed_of, IsClosed}

-- ---- the collector at the store below

-- each object of the second graph is one of the first, as it was there
abbrev pub OnlyRemoves : List Object → List Object → Type 0
OnlyRemoves old new = (id : ℕ) (o : Object) → object_at new id ≡ Some o → object_at old id ≡ Some o

-- what a crash may leave stays: the number of ids, the graph of the opening and the commits since
pub record KeepsCommits {D : Type 0} (old new : LoggedView D) : Type 0 where
  pub ids : (state_of new).ids ≡ (state_of old).ids
  pub opened : (end_of new.journal.history).opened ≡ (end_of old.journal.history).opened
  pub commits : (end_of new.journal.history).commits ≡ (end_of old.journal.history).commits

-- the collector made so many events, each an entry of the history: what is committed lost objects at most, and the disk stays
pub record MakesEvents {D : Type 0} (events : ℕ) (old new : LoggedView D) : Type 0 where
  pub running : new.failed ≡ None
  pub quiet : IsQuiet (state_of new)
  pub removes : OnlyRemoves (state_of old).committed (state_of new).committed
  pub entries : length new.journal.history.entries ≡ length old.journal.history.entries + events
  pub commits : KeepsCommits old new
  pub limits : new.journal.limits ≡ old.journal.limits
  pub disk : KeepsDisk old new

-- it made as many as were asked for, or fewer where nothing was left to do
pub record MakesUpTo {D : Type 0} (steps left : ℕ) (old new : LoggedView D) : Type 0 where
  pub events : ℕ
  pub within : events ≤ steps
  pub all : left ≢ 0 → events ≡ steps
  pub makes : MakesEvents events old new

-- why it can't make the next event: the history has no room for an entry, the log has none for its record, or memory is short
abbrev pub IsShortToCollect : {D : Type 0} → StoreError → LoggedView D → Type 0
IsShortToCollect error.HistoryFull v = is_past_limit v.journal 1 ≡ true
IsShortToCollect error.LogFull v = IsPastLogToCollect v
IsShortToCollect error.Memory v = Unit {0}
IsShortToCollect _ v = ⊥

-- it made fewer than were asked for, since something is short
pub record MakesShort {D : Type 0} (steps : ℕ) (why : StoreError) (old new : LoggedView D) : Type 0 where
  pub events : ℕ
  pub within : events < steps
  pub makes : MakesEvents events old new
  pub cause : IsShortToCollect why new

-- how many objects wait for the collector: those in its queue, and those of its open round
abbrev pub waiting_in : {D : Type 0} → LoggedView D → ℕ
waiting_in v = length v.journal.queue + length (ids_in v.journal.round)

-- just the objects are stored that the root reaches
abbrev pub IsExact : {D : Type 0} → LoggedView D → Type 0
IsExact v = (id : ℕ) → (is_stored (state_of v).stored id ≡ true) ↔ Reachable (state_of v).committed (root ∷ []) id

-- ---- a checkpoint at the store below

-- The log was turned: each image of the disk has every page in place, and the log begins anew. No object changed.
pub record TurnsLog {D : Type 0} (may_leave : D → Area → List ℕ → Type 0) (old new : LoggedView D) : Type 0 where
  pub same : end_of new.journal.history ≡ end_of old.journal.history
  pub turns : Turns object_slots old new
  pub images : EachImage may_leave new.disk (IsTurned object_slots (cells_of old.journal) (other_log old.log.area))

-- why the log can't be turned: the history has no room for an entry, the log with all images would be longer than a log may be, or
-- memory is short
abbrev pub IsShortToTurn : {D : Type 0} → StoreError → LoggedView D → Type 0
IsShortToTurn error.HistoryFull v = is_past_limit v.journal 1 ≡ true
IsShortToTurn error.LogFull v = IsPastLogToTurn object_slots v
IsShortToTurn error.Memory v = Unit {0}
IsShortToTurn _ v = ⊥

-- it was not, since something is short: no object changed, and the disk stays
pub record StaysUnturned {D : Type 0} (why : StoreError) (old new : LoggedView D) : Type 0 where
  pub cause : IsShortToTurn why old
  pub same : end_of new.journal.history ≡ end_of old.journal.history
  pub running : new.failed ≡ None
  pub disk : KeepsDisk old new

-- it was not: the disk failed a call, or something is short
abbrev pub TurnsNot : {D : Type 0} → (D → ℕ) → StoreError → LoggedView D → LoggedView D → Type 0
TurnsNot faults error.Disk old new = FailsUpkeep faults old new
TurnsNot faults why old new = StaysUnturned why old new

-- the bytes are a store that opens, and the root reaches the same there as in this graph
pub record OpensToReach (graph : List Object) (image : Bytes) : Type 0 where
  pub cells : List Cell
  pub opened : Opened object_slots image (OpensTo cells)
  pub reach : SameReachable (graph_of_cells cells) graph

-- ---- what a store's upkeep does

-- how many objects wait for the collector
abbrev pub waiting_of : {D : Type 0} → StoreView D → ℕ
waiting_of v = waiting_in v.below

-- just the objects are stored that the root reaches
abbrev pub StoresReached : {D : Type 0} → StoreView D → Type 0
StoresReached v = IsExact v.below

-- The collector worked where no transaction is open; one that was left open was ended first, without its writes. What the root
-- reaches in the committed graph is as before, and an object that is still stored is as it was.
pub record Collects {D : Type 0} (old new : StoreView D) : Type 0 where
  pub closed : IsClosed new
  pub reach : SameReachable (committed_of new) (committed_of old)
  pub removes : OnlyRemoves (committed_of old) (committed_of new)
  pub running : new.below.failed ≡ None
  pub tending : new.tending ≡ old.tending
  pub disk : KeepsDisk old.below new.below

-- so many steps of it were asked for, and so many objects wait now
pub record CollectsUpTo {D : Type 0} (steps left : ℕ) (old new : StoreView D) : Type 0 where
  pub collects : Collects old new
  pub ended : LoggedView D
  pub ends : Ends old.below ended
  pub makes : MakesUpTo steps left ended new.below

-- it stopped before, since something is short
pub record CollectsShort {D : Type 0} (steps : ℕ) (why : StoreError) (old new : StoreView D) : Type 0 where
  pub collects : Collects old new
  pub ended : LoggedView D
  pub ends : Ends old.below ended
  pub makes : MakesShort steps why ended new.below

-- the disk failed a call before, and nothing was done; or something is short
abbrev pub FailsToCollect : {D : Type 0} → ℕ → StoreError → StoreView D → StoreView D → Type 0
FailsToCollect steps error.Stopped old new = (old.below.failed ≢ None) × (new ≡ old)
FailsToCollect steps why old new = CollectsShort steps why old new

-- A checkpoint was made: the pages are on the disk in place, and the log begins anew. What is committed is as before. A transaction
-- that was left open was ended first, without its writes.
pub record Checkpoints {D : Type 0} (may_leave : D → Area → List ℕ → Type 0) (old new : StoreView D) : Type 0 where
  pub closed : IsClosed new
  pub committed : committed_of new ≡ committed_of old
  pub tending : new.tending ≡ old.tending
  pub ended : LoggedView D
  pub ends : Ends old.below ended
  pub turns : TurnsLog may_leave ended new.below

-- it was not made, and what is committed is as before
pub record MissesCheckpoint {D : Type 0} (faults : D → ℕ) (why : StoreError) (old new : StoreView D) : Type 0 where
  pub closed : IsClosed new
  pub committed : committed_of new ≡ committed_of old
  pub tending : new.tending ≡ old.tending
  pub ended : LoggedView D
  pub ends : Ends old.below ended
  pub turns : TurnsNot faults why ended new.below

-- the disk failed a call before, and nothing was done; or it wasn't made
abbrev pub FailsToCheckpoint : {D : Type 0} → (D → ℕ) → StoreError → StoreView D → StoreView D → Type 0
FailsToCheckpoint faults error.Stopped old new = (old.below.failed ≢ None) × (new ≡ old)
FailsToCheckpoint faults why old new = MissesCheckpoint faults why old new

-- ---- a store that is tended

-- so many bytes of the log may be in use where a transaction begins
abbrev pub soft_limit : {D : Type 0} → StoreView D → ℕ
soft_limit v = v.tending.log

-- The store was made ready for a transaction: by a checkpoint, where more than the soft limit was in use, and else it was. Then no
-- more than that is in use, or the 15 bytes with which a log begins.
pub record Readies {D : Type 0} (may_leave : D → Area → List ℕ → Type 0) (old ready : StoreView D) : Type 0 where
  pub was : used old.below.log ≤ soft_limit old → ready ≡ old
  pub turned : soft_limit old < used old.below.log → Checkpoints may_leave old ready
  pub room : used ready.below.log ≤ max 15 (soft_limit old)

-- and then the collector made so many steps
pub record Tends {D : Type 0} (may_leave : D → Area → List ℕ → Type 0) (steps left : ℕ) (old new : StoreView D) : Type 0 where
  pub ready : StoreView D
  pub readies : Readies may_leave old ready
  pub collects : CollectsUpTo steps left ready new

-- it was not made ready, or the collector stopped before
pub data FailsToTend {D : Type 0} (faults : D → ℕ) (may_leave : D → Area → List ℕ → Type 0) (steps : ℕ) (why : StoreError) (old new : StoreView D) : Type 0 where
  unready : soft_limit old < used old.below.log → FailsToCheckpoint faults why old new → FailsToTend faults may_leave steps why old new
  stopped : (ready : StoreView D) → Readies may_leave old ready → FailsToCollect steps why ready new → FailsToTend faults may_leave steps why old new
