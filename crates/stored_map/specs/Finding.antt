-- What is found on a disk: a store that keeps a map, or none.
use Rattle.std.specs.Prelude.{◌≡◌, ℕ, ◌+◌, List, length, Option}
use Rattle.disk_model.specs.declared.area.Area.{Area}
use Rattle.disk_model.specs.Areas.{Bytes}
use Rattle.disk_model.specs.Told.{EachImage}
use Rattle.cell_model.specs.Cells.{Cell}
use Rattle.cell_model.specs.Graph.{graph_of}
use Rattle.store_opening.specs.declared.open_refusal.OpenRefusal.{OpenRefusal}
use Rattle.logged_journal.specs.View.{LoggedView}
use Rattle.journal_opening.specs.Openings.{ReadsAs, RefusesToOpen, OpensMeanwhile, HasFault}
use Rattle.object_map.specs.Clients.{object_slots}
use Rattle.map_calls.specs.declared.failure.Failure.{Failure}
use Rattle.map_calls.specs.declared.failure.Failure.TheVariants as failure
use Rattle.map_calls.specs.declared.failure.Unopened.{Unopened}
use Rattle.map_calls.specs.declared.failure.Unopened.TheVariants as unopened
use Rattle.stored_map.specs.declared.kept.Kept.{Kept}
use Rattle.stored_map.specs.declared.kept.Kept.TheVariants.{Looking, Stopped, Shut}
use Rattle.stored_map.specs.Graphs.{KeepsNone, BreaksFirst}
use Rattle.stored_map.specs.Stores.{state_in, HasLimits, IsLooking, OpensToSame}
use Rattle.stored_map.specs.Steps.{Refuses, IsMarkedBy}

-- the store keeps no map, this object is the first that breaks it, and the disk is handed back; or a look was refused for want of memory or of room
abbrev pub IsUnread : {D : Type 0} → LoggedView D → Unopened → Kept D → Type 0
IsUnread old (unopened.NoMap id) kept = KeepsNone (state_in old).committed × BreaksFirst (state_in old).committed id × (kept ≡ Shut old.disk)
IsUnread old (unopened.Unread cause) kept = (v : LoggedView _) × (kept ≡ Stopped v) × Refuses cause old v
IsUnread old _ kept = ⊥

module _ {D : Type 0} (content : D → Area → Option (List ℕ)) (may_leave : D → Area → List ℕ → Type 0) (moment : D → ℕ) (left_since : D → ℕ → Bytes → Type 0) (faults : D → ℕ) where
  -- The disk held a store of so many ids with these cells, and was asked for no more than its opening. Whatever a power loss leaves now
  -- opens to a store in which the root reaches the same.
  pub record HoldsStore (before : D) (ids : ℕ) (cells : List Cell) (now : D) : Type 0 where
    pub reads : ReadsAs content object_slots before cells
    pub size : length cells ≡ ids + 1
    pub images : EachImage may_leave now (OpensToSame ids (graph_of cells))
    pub meanwhile : OpensMeanwhile content may_leave moment left_since object_slots before now
    pub same : faults now ≡ faults before

  -- a store that keeps a map was opened from the disk: the committed graph is that of its cells
  pub record FindsMap (before : D) (kept : Kept D) : Type 0 where
    pub view : LoggedView D
    pub is : kept ≡ Looking view
    pub looking : IsLooking view
    pub cells : List Cell
    pub holds : HoldsStore before (state_in view).ids cells view.disk
    pub graph : (state_in view).committed ≡ graph_of cells

  -- the store wasn't opened
  pub record RefusesStore (before : D) (e : OpenRefusal) (kept : Kept D) : Type 0 where
    pub disk : D
    pub is : kept ≡ Shut disk
    pub refused : RefusesToOpen content may_leave moment left_since object_slots before e disk
    pub meanwhile : OpensMeanwhile content may_leave moment left_since object_slots before disk
    pub fault : HasFault (faults before) (faults disk) e

  -- it was opened, and keeps no map: this object is the first that breaks it
  pub record FindsNone (before : D) (id : ℕ) (kept : Kept D) : Type 0 where
    pub disk : D
    pub is : kept ≡ Shut disk
    pub ids : ℕ
    pub cells : List Cell
    pub holds : HoldsStore before ids cells disk
    pub none : KeepsNone (graph_of cells)
    pub broken : BreaksFirst (graph_of cells) id

  -- it was opened, and a look at it was refused for want of memory or of room
  pub record FindsUnread (before : D) (cause : Failure) (kept : Kept D) : Type 0 where
    pub view : LoggedView D
    pub is : kept ≡ Stopped view
    pub cells : List Cell
    pub holds : HoldsStore before (state_in view).ids cells view.disk
    pub limits : HasLimits view
    pub no_disk : cause ≡ failure.Disk → ⊥
    pub marked : IsMarkedBy cause view

  -- no map is found, for this cause
  abbrev pub FindsNoMap : D → Unopened → Kept D → Type 0
  FindsNoMap before unopened.Power kept = ⊥
  FindsNoMap before (unopened.Refused e) kept = RefusesStore before e kept
  FindsNoMap before (unopened.NoMap id) kept = FindsNone before id kept
  FindsNoMap before (unopened.Unread cause) kept = FindsUnread before cause kept
