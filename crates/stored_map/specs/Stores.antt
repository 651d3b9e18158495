-- A store that keeps a map, between two transactions of its client.
use Rattle.std.specs.Prelude.{◌≡◌, ℕ, ◌+◌, Bool, true, false, List, [], length, Option, Some, None, IsSome}
use Rattle.plain_model.specs.declared.object.Object.{Object}
use Rattle.plain_model.specs.Graphs.{root, has_object}
use Rattle.plain_model.specs.Machine.{State, is_stored}
use Rattle.plain_model.specs.History.{SameReachable, IsId, end_of}
use Rattle.plain_laws.specs.Sound.{IsSoundState}
use Rattle.disk_model.specs.declared.area.Area.{Area}
use Rattle.disk_model.specs.Areas.{Bytes}
use Rattle.disk_model.specs.Told.{IsImage}
use Rattle.cell_model.specs.Cells.{Cell}
use Rattle.cell_model.specs.Graph.{graph_of}
use Rattle.opened_images.specs.Opened.{Opened, OpensTo}
use Rattle.logged_journal.specs.View.{LoggedView}
use Rattle.object_map.specs.Maps.{IsMap}
use Rattle.object_map.specs.Seen.{held}
use Rattle.object_map.specs.Clients.{object_slots, client_at, seen, IsClient, free_ids}
use Rattle.map_calls.specs.Maps.{MapState}
use Rattle.map_calls.specs.Views.{StoreView, Leaving}
use Rattle.stored_map.specs.declared.kept.Kept.{Kept}
use Rattle.stored_map.specs.declared.kept.Kept.TheVariants.{Idle, Looking, Stopped, Shut, Taken}
use Rattle.stored_map.specs.declared.kept.Released.{Released}
use Rattle.stored_map.specs.declared.kept.Released.TheVariants as released
use Rattle.stored_map.specs.Graphs.{KeepsMap, map_of}

-- the state of the reference machine at the end of the store's history
abbrev pub state_in : {D : Type 0} → LoggedView D → State
state_in v = (end_of v.journal.history).state

-- the store's history and its log have the greatest limits
abbrev pub HasLimits : {D : Type 0} → LoggedView D → Type 0
HasLimits v = v.journal.limits ≡ record { trace = 1048576; log = 1071644672 }

-- no call was answered that the history is full, or that the log is
pub record IsUnmarked {D : Type 0} (v : LoggedView D) : Type 0 where
  pub history : v.journal.marks.trace ≡ false
  pub log : v.log_full ≡ false

-- no client has a transaction, and no call failed
pub record IsQuiet {D : Type 0} (v : LoggedView D) : Type 0 where
  pub running : v.failed ≡ None
  pub none : (state_in v).active ≡ []
  pub unmarked : IsUnmarked v
  pub limits : HasLimits v

-- the client alone has a transaction, whose register 0 holds the root; it has changed nothing, and no call failed
pub record HasBegun {D : Type 0} (v : LoggedView D) : Type 0 where
  pub client : IsClient v 1
  pub rooted : held (seen (client_at v 1)) 0 ≡ Some root
  pub same : (seen (client_at v 1)).graph ≡ (state_in v).committed
  pub unmarked : IsUnmarked v
  pub limits : HasLimits v

-- no client has a transaction, and the committed graph keeps a map
pub record IsIdle {D : Type 0} (v : LoggedView D) : Type 0 where
  pub quiet : IsQuiet v
  pub map : KeepsMap (state_in v).committed

-- the client looks at a map that the committed graph keeps
pub record IsLooking {D : Type 0} (v : LoggedView D) : Type 0 where
  pub begun : HasBegun v
  pub map : KeepsMap (state_in v).committed

-- what is kept is as it says
abbrev pub IsKept : {D : Type 0} → Kept D → Type 0
IsKept (Idle v) = IsIdle v
IsKept (Looking v) = IsLooking v
IsKept (Stopped v) = HasLimits v
IsKept (Shut disk) = Unit {0}
IsKept Taken = ⊥

-- whether the store is open and takes calls
abbrev pub is_running : {D : Type 0} → Kept D → Bool
is_running (Idle v) = true
is_running (Looking v) = true
is_running _ = false

-- ---- what is known of the state

-- the state is sound; each object of the committed graph has an id of the store, and so has what is stored
pub record IsKnown (s : State) : Type 0 where
  pub sound : IsSoundState s
  pub ids : (id : ℕ) → has_object s.committed id ≡ true → IsId s.ids id
  pub stored : (id : ℕ) → is_stored s.stored id ≡ true → IsId s.ids id

-- ---- what a script sees of it

-- an open store: the map of its committed graph, how many ids aren't stored, how many calls its disk failed, and which marks are set
abbrev pub view_at : {D : Type 0} → (D → ℕ) → Bool → LoggedView D → StoreView
view_at faults running v = record {
  map = map_of (state_in v).ids (state_in v).committed;
  room = free_ids (state_in v);
  running = running;
  faults = faults v.disk;
  history_full = v.journal.marks.trace;
  log_full = v.log_full;
}

-- a store that isn't open, over a disk of which so many calls failed
abbrev pub shut_view : ℕ → StoreView
shut_view faults = record { map = record { pairs = []; ids = 0; free = 0; graph = [] }; room = 0; running = false; faults = faults; history_full = false; log_full = false }

-- what a script sees of what is kept
abbrev pub view_of : {D : Type 0} → (D → ℕ) → Kept D → StoreView
view_of faults (Idle v) = view_at faults true v
view_of faults (Looking v) = view_at faults true v
view_of faults (Stopped v) = view_at faults false v
view_of faults (Shut disk) = shut_view (faults disk)
view_of faults Taken = shut_view 0

-- ---- what a power loss leaves

-- the disk, where something is kept
abbrev pub disk_of : {D : Type 0} → Kept D → Option D
disk_of (Idle v) = Some v.disk
disk_of (Looking v) = Some v.disk
disk_of (Stopped v) = Some v.disk
disk_of (Shut disk) = Some disk
disk_of Taken = None

-- the bytes are a store of so many ids that opens, and the root reaches the same there as in this graph
pub record OpensToSame (ids : ℕ) (g : List Object) (image : Bytes) : Type 0 where
  pub cells : List Cell
  pub opened : Opened object_slots image (OpensTo cells)
  pub size : length cells ≡ ids + 1
  pub reach : SameReachable (graph_of cells) g

-- the bytes are a store that opens and keeps this map: it has as many ids, and the root reaches the same there
pub record OpensToMap (image : Bytes) (m : MapState) : Type 0 where
  pub cells : List Cell
  pub opened : Opened object_slots image (OpensTo cells)
  pub size : length cells ≡ m.ids + 1
  pub map : IsMap 13 (graph_of cells) m.pairs
  pub reach : SameReachable (graph_of cells) m.graph

-- a power loss may leave these bytes of what is kept
abbrev pub left_of : {D : Type 0} → (D → Area → List ℕ → Type 0) → Kept D → Bytes → Type 0
left_of may_leave (Idle v) = IsImage may_leave v.disk
left_of may_leave (Looking v) = IsImage may_leave v.disk
left_of may_leave (Stopped v) = IsImage may_leave v.disk
left_of may_leave (Shut disk) = IsImage may_leave disk
left_of may_leave Taken = λ image. ⊥

-- what a power loss may leave of what is kept
abbrev pub leaving : {D : Type 0} → (D → Area → List ℕ → Type 0) → Kept D → Leaving
leaving may_leave kept = record { left = left_of may_leave kept; keeps = OpensToMap }

-- disks of this kind tell what each area reads
abbrev pub Tell : {D : Type 0} → (D → Area → Option (List ℕ)) → Type 0
Tell {D} content = (disk : D) (area : Area) → IsSome (content disk area)

-- what is left of what was kept, when it is let go
abbrev pub Releases : {D : Type 0} → Kept D → Released D → Type 0
Releases (Idle v) left = left ≡ released.Open v
Releases (Looking v) left = left ≡ released.Open v
Releases (Stopped v) left = left ≡ released.Open v
Releases (Shut disk) left = left ≡ released.Shut disk
Releases Taken left = ⊥

-- a journal that is handed back has the greatest limits
abbrev pub HasOwnLimits : {D : Type 0} → Released D → Type 0
HasOwnLimits (released.Open v) = HasLimits v
HasOwnLimits (released.Shut disk) = Unit {0}
