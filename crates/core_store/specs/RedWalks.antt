-- The red walk of the open round, read off the notes.
use Rattle.std.specs.Prelude.{◌≡◌, ℕ, Bool, true, false, not, ◌&&◌, ◌==◌, if◌then◌else◌, List, [], ◌∷◌, ◌++◌, Contains, Option, Some}
use Rattle.plain_model.specs.Graphs.{root}
use Rattle.cell_model.specs.Cells.{Cell, cell_at, pointer_at}
use Rattle.ref_tables.specs.Queue.{has}
use Rattle.log_record.specs.declared.cell_record.CellRecord.{CellRecord}
use Rattle.log_record.specs.declared.cell_record.CellRecord.TheVariants as logs
use Rattle.core_store.specs.declared.act.Act.{Act}
use Rattle.core_store.specs.declared.act.Act.TheVariants as act
use Rattle.core_store.specs.declared.note.Note.{Note}
use Rattle.core_store.specs.Changes.{is_counted_strong, has_no_strong}
use Rattle.core_store.specs.Logged.{after_logged}

-- whether a round is open of which nothing is copied yet, its objects in the order in which they joined, and the slots of them
-- that a `Store` wrote since
pub record RedWalk : Type 0 where
  pub going : Bool
  pub list : List ℕ
  pub written : List (ℕ × ℕ)

-- the walk of no round
abbrev pub no_walk : RedWalk
no_walk = record { going = false; list = []; written = [] }

-- the object joins: it isn't the root, it isn't listed, and no strong pointer leads to it in these cells
abbrev pub joins : List Cell → RedWalk → ℕ → Bool
joins cells w id = not (id == root) && (not (has w.list id) && has_no_strong (cell_at cells id))

-- the walk after a record that leaves these cells
abbrev pub with_record : List Cell → RedWalk → Option CellRecord → RedWalk
with_record cells w (Some (logs.Weaken id slot target)) = if joins cells w target then record w { list = w.list ++ target ∷ [] } else w
with_record cells w (Some (logs.Store pass id slot old_target old_strong new_target new_bit new_strong)) = if has w.list id then record w { written = (id, slot) ∷ w.written } else w
with_record cells w _ = w

-- the walk after a note that leaves these cells: it begins with the object of `Start`, and goes on until something is copied
abbrev pub walk_after : List Cell → RedWalk → Note → RedWalk
walk_after cells w n = by n.act
  where
    by : Act → RedWalk
    by (act.Start id) = record { going = true; list = id ∷ []; written = [] }
    by (act.Scan id) = record w { going = false }
    by act.Judge = record w { going = false }
    by _ = with_record cells w n.logged

-- the walk after these notes
abbrev pub walk_of : ℕ → List Cell → RedWalk → List Note → RedWalk
walk_of slots cells w [] = w
walk_of slots cells w (n ∷ ns) = walk_of slots (after_logged slots cells n.logged) (walk_after (after_logged slots cells n.logged) w n) ns

-- the walk is over: a slot of one of its objects that holds a strong pointer was written by a `Store` after that object joined
abbrev pub IsOver : List Cell → RedWalk → Type 0
IsOver cells w = (id slot : ℕ) → Contains w.list id → is_counted_strong cells (pointer_at cells id slot) ≡ true → Contains w.written (id, slot)

-- an object is copied, the first of its round
abbrev pub is_first_copy : RedWalk → Act → Bool
is_first_copy w (act.Scan id) = w.going
is_first_copy w _ = false

-- at the first copy of each round the walk is over
abbrev pub AreWalked : ℕ → List Cell → RedWalk → List Note → Type 0
AreWalked slots cells w [] = Unit {0}
AreWalked slots cells w (n ∷ ns) = (is_first_copy w n.act ≡ true → IsOver cells w) × AreWalked slots (after_logged slots cells n.logged) (walk_after (after_logged slots cells n.logged) w n) ns
