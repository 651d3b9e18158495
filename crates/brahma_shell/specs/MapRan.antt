-- How the command `map` ends.
use Rattle.std.specs.Prelude.{◌≡◌, ◌⊎◌, ◌↔◌, ℕ, ◌+◌, List, [], ◌∷◌, ◌++◌, length, true, false, Option, Some, None, IfSome, IsNone, IsSome}
use Rattle.plain_model.specs.History.{IsLegal, end_of, is_stopped}
use Rattle.plain_laws.specs.Serializable.{IsSerializable}
use Rattle.disk_model.specs.declared.area.Area.{Area}
use Rattle.disk_model.specs.Areas.{Bytes}
use Rattle.disk_model.specs.Causes.{Rose}
use Rattle.disk_model.specs.Told.{IsImage, EachImage}
use Rattle.cell_model.specs.Cells.{Cell}
use Rattle.cell_model.specs.Graph.{graph_of}
use Rattle.opened_images.specs.Opened.{Opened, OpensTo}
use Rattle.journal_opening.specs.Openings.{ReadsAs, OpensMeanwhile}
use Rattle.store_model.specs.Sound.{IsSound}
use Rattle.core_store.specs.JournalView.{core_of, opening_of}
use Rattle.core_store.specs.Leads.{AreLed}
use Rattle.core_store.specs.Limited.{WasFull}
use Rattle.core_store.specs.Safe.{IsDurable}
use Rattle.logged_journal.specs.View.{LoggedView, history_of}
use Rattle.logged_journal.specs.Records.{MayBeLeft, durable_notes}
use Rattle.logged_journal.specs.Opens.{OpensAfter}
use Rattle.script_lines.specs.Lines.{lines_of}
use Rattle.script_lines.specs.Numbers.{object_slots}
use Rattle.map_calls.specs.Grammar.{IsRefused}
use Rattle.map_calls.specs.Output.{no_map_line}
use Rattle.map_calls.specs.declared.failure.Failure.{Failure}
use Rattle.map_calls.specs.declared.failure.Failure.TheVariants as failure
use Rattle.map_calls.specs.Maps.{MapState}
use Rattle.map_calls.specs.Views.{StoreView, Leaving, status_of_failure, failure_line}
use Rattle.map_script.specs.Mapped.{Mapped, streams}
use Rattle.object_map.specs.Clients.{free_ids}
use Rattle.stored_map.specs.declared.kept.Released.{Released}
use Rattle.stored_map.specs.declared.kept.Released.TheVariants as released
use Rattle.stored_map.specs.Graphs.{KeepsMap, KeepsNone, BreaksFirst, map_of}
use Rattle.stored_map.specs.Stores.{state_in, OpensToSame, OpensToMap}
use Rattle.brahma_shell.specs.declared.ended.Ended.{Ended}
use Rattle.brahma_shell.specs.declared.ended.Ended.TheVariants.{Shut, Kept}
use Rattle.brahma_shell.specs.Ended.{kept_in, shut_in, disk_in}
use Rattle.brahma_shell.specs.Log.{WasLogFull}
use Rattle.brahma_shell.specs.Points.{entries_in}
use Rattle.brahma_shell.specs.Top.{Tell, IsOfOpenedStore, IsStatusOfReplay, IsDoneOrFull, Outside, Ends, Unopened}

-- ---- what a disk holds

-- whatever a power loss leaves of the disk is a store of so many ids that opens and keeps a map
abbrev pub AlwaysKeepsMap : {D : Type 0} → (D → Area → List ℕ → Type 0) → ℕ → D → Type 0
AlwaysKeepsMap may_leave ids disk = EachImage may_leave disk (λ image. (m : MapState) × (m.ids ≡ ids) × OpensToMap image m)

-- the image opens to a store that keeps no map
pub record OpensToNoMap (image : Bytes) : Type 0 where
  pub cells : List Cell
  pub opened : Opened object_slots image (OpensTo cells)
  pub none : KeepsNone (graph_of cells)

-- what a power loss may leave of the disk, and which stores keep which map
abbrev pub leaves_of : {D : Type 0} → (D → Area → List ℕ → Type 0) → D → Leaving
leaves_of may_leave disk = record { left = IsImage may_leave disk; keeps = OpensToMap }

-- the source tells what it has left, and each of its lines is in the grammar of `map` and within the limits
abbrev pub HasOnlyMapLines : Option (List ℕ) → Type 0
HasOnlyMapLines None = ⊥
HasOnlyMapLines (Some bytes) = (before behind : List (List ℕ)) (line : List ℕ) → lines_of bytes ≡ before ++ line ∷ behind → IsRefused (length before + 1) line → ⊥

-- ---- the journal that is handed back

-- what is handed back of a store that was let go
abbrev pub ended_of : {D : Type 0} → Released D → Ended D
ended_of (released.Open v) = Kept v
ended_of (released.Shut disk) = Shut disk

-- Its history is legal and serializable, but for a commit that the disk failed, and it is of a store that was opened with the program's
-- limits. It is sound, and what its notes give. In each image of its disk the log has the records of the durable notes, or, where the
-- disk failed a commit, perhaps those of all and of that. Where it is marked as full it was.
pub record IsOfMap {D : Type 0} (may_leave : D → Area → List ℕ → Type 0) (v : LoggedView D) : Type 0 where
  pub legal : IsLegal v.journal.history
  pub serializable : IsSerializable v.journal.history
  pub running : is_stopped (end_of v.journal.history) ≡ false
  pub opened : IsOfOpenedStore v.journal
  pub entries : entries_in v.journal.notes ≡ v.journal.history.entries
  pub sound : IsSound (core_of v.journal)
  pub led : AreLed object_slots (opening_of v.journal) v.journal.notes (core_of v.journal)
  pub lasting : IsDurable v.journal (durable_notes v)
  pub images : EachImage may_leave v.disk (MayBeLeft v)
  pub opens : EachImage may_leave v.disk (OpensAfter object_slots (history_of v))
  pub full : v.journal.marks.trace ≡ true → WasFull v.journal
  pub log_full : v.log_full ≡ true → WasLogFull v

-- the store that a script sees is the journal's
pub record IsSeenIn {D : Type 0} (v : LoggedView D) (now : StoreView) : Type 0 where
  pub map : now.map ≡ map_of (state_in v).ids (state_in v).committed
  pub room : now.room ≡ free_ids (state_in v)
  pub history : now.history_full ≡ v.journal.marks.trace
  pub log : now.log_full ≡ v.log_full

-- ---- the ends

-- the store was opened, and keeps no map: the disk is handed back
pub record KeepsNoMap {D : Type 0} (content : D → Area → Option (List ℕ)) (may_leave : D → Area → List ℕ → Type 0) (moment : D → ℕ) (left_since : D → ℕ → Bytes → Type 0)
    (disk : D) (before after : Outside) (status : ℕ) (ended : Ended D) : Type 0 where
  pub cells : List Cell
  pub opened : ReadsAs content object_slots disk cells
  pub none : KeepsNone (graph_of cells)
  pub ids : ℕ
  pub size : length cells ≡ ids + 1
  pub told : status ≡ 7
  -- the last line names the first object that breaks it
  pub id : ℕ
  pub broken : BreaksFirst (graph_of cells) id
  pub printed : Ends before after [] (no_map_line id)
  pub shut : IsSome (shut_in ended)
  pub faults : after.disk_faults ≡ before.disk_faults
  -- the disk was asked for no more than the opening
  pub exit : EachImage may_leave (disk_in ended) (OpensToSame ids (graph_of cells))
  pub moments : OpensMeanwhile content may_leave moment left_since object_slots disk (disk_in ended)

-- the store was opened, and a look at its map was refused, for want of memory or of room: the journal is handed back
pub record ReadsNoMap {D : Type 0} (content : D → Area → Option (List ℕ)) (may_leave : D → Area → List ℕ → Type 0) (moment : D → ℕ) (left_since : D → ℕ → Bytes → Type 0)
    (disk : D) (before after : Outside) (status : ℕ) (ended : Ended D) : Type 0 where
  pub cells : List Cell
  pub opened : ReadsAs content object_slots disk cells
  pub ids : ℕ
  pub size : length cells ≡ ids + 1
  pub cause : Failure
  pub no_disk : cause ≡ failure.Disk → ⊥
  pub told : status ≡ status_of_failure cause
  pub printed : Ends before after [] (failure_line cause)
  pub view : LoggedView D
  pub kept : ended ≡ Kept view
  pub journal : IsOfMap may_leave view
  -- it is marked as full exactly where that is the cause
  pub history : (cause ≡ failure.HistoryFull) ↔ (view.journal.marks.trace ≡ true)
  pub log : (cause ≡ failure.LogFull) ↔ (view.log_full ≡ true)
  pub same : after.disk_faults ≡ before.disk_faults
  pub exit : EachImage may_leave (disk_in ended) (OpensToSame ids (graph_of cells))
  pub moments : OpensMeanwhile content may_leave moment left_since object_slots disk (disk_in ended)

-- no map was found: the store wasn't opened, or keeps none, or a look at it was refused
abbrev pub Unmapped : {D : Type 0} → (D → Area → Option (List ℕ)) → (D → Area → List ℕ → Type 0) → (D → ℕ) → (D → ℕ → Bytes → Type 0) → D → Outside → Outside → ℕ → Ended D → Type 0
Unmapped content may_leave moment left_since disk before after status ended =
    Unopened content may_leave moment left_since disk before after status ended
    ⊎ (KeepsNoMap content may_leave moment left_since disk before after status ended ⊎ ReadsNoMap content may_leave moment left_since disk before after status ended)

-- the lines were done over the map of the store that the disk held, which ended with this status
pub record MapRan {D : Type 0} (content : D → Area → Option (List ℕ)) (may_leave : D → Area → List ℕ → Type 0) (disk : D) (before after : Outside) (status : ℕ) (ended : Ended D) : Type 0 where
  pub cells : List Cell
  pub opened : ReadsAs content object_slots disk cells
  pub ids : ℕ
  pub size : length cells ≡ ids + 1
  pub keeps : KeepsMap (graph_of cells)
  -- what a script sees of the store, at first and at the end
  pub «first» : StoreView
  pub now : StoreView
  pub map : «first».map ≡ map_of ids (graph_of cells)
  pub counted : («first».faults ≡ before.disk_faults) × (now.faults ≡ after.disk_faults)
  -- what was done and printed, and what a power loss leaves then; and at each other status than 0 why
  pub mapped : Mapped (Tell content) (streams before.left before.read_faults before.written before.write_faults) (streams after.left after.read_faults after.written after.write_faults) «first» now (leaves_of may_leave (disk_in ended)) status
  -- the journal of the last opening is handed back
  pub journal : IfSome (kept_in ended) (λ v. IsOfMap may_leave v × IsSeenIn v now)
  -- each image of the disk opens and keeps a map, in a store of as many ids
  pub exit : Tell content → AlwaysKeepsMap may_leave ids (disk_in ended)
  pub statuses : IsStatusOfReplay status
  pub failed_disk : status ≡ 6 → Rose before.disk_faults after.disk_faults
  pub only_untold : status ≡ 7 → Tell content → ⊥
  -- no journal is handed back only where a store isn't opened again, or keeps no map
  pub handed : IsNone (kept_in ended) → (status ≡ 6) ⊎ ((status ≡ 7) ⊎ ((status ≡ 8) ⊎ (status ≡ 9)))
  -- lines that are in the grammar and within the limits are done, where neither a stream nor the disk failed, unless memory is out, the
  -- history or the log full, or, on a disk that doesn't tell what it reads, a store isn't opened again
  pub complete : HasOnlyMapLines before.left → ¬ Rose before.read_faults after.read_faults → ¬ Rose before.write_faults after.write_faults → ¬ Rose before.disk_faults after.disk_faults → IsDoneOrFull status ⊎ (status ≡ 7)
