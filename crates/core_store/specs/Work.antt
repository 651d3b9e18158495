-- The object on which a call works.
use Rattle.std.specs.Prelude.{ℕ, ◌<◌, ◌≤◌, ◌==◌, if◌then◌else◌, List, [], ◌∷◌, length, map, Option, Some, None, IfSome}
use Rattle.std.specs.List.{AllByRecursion}
use Rattle.std.specs.Option.{option_map_or}
use Rattle.cell_model.specs.Cells.{Cell, pointer_at}
use Rattle.plain_model.specs.declared.write.Place.{Place}
use Rattle.plain_model.specs.declared.write.Place.TheVariants.{Slot}
use Rattle.plain_model.specs.declared.write.Write.{Write}
use Rattle.cell_page.specs.Format.{page_of_id}
use Rattle.core_store.specs.declared.plan.Plan.{Plan}
use Rattle.core_store.specs.declared.plan.Plan.TheVariants as plan
use Rattle.core_store.specs.declared.want.Work.{Work}
use Rattle.core_store.specs.Logged.{object_and_targets}

-- the object on which a plan works, with its slot and what that is to hold, where it changes one
abbrev pub work_of : Plan → Option Work
work_of plan.Begin = None
work_of plan.Commit = None
work_of (plan.Release id) = None
work_of (plan.Read id slot into) = Some (record { id = id; change = None })
work_of (plan.Make id into) = Some (record { id = id; change = None })
work_of (plan.Get id) = Some (record { id = id; change = None })
work_of (plan.Set id value) = Some (record { id = id; change = None })
work_of (plan.Store id slot target) = Some (record { id = id; change = Some (slot, target) })

-- the object on which an undo step works that lays this again
abbrev pub work_of_undo : Write → Work
work_of_undo w = record { id = w.id; change = by w.place }
  where
    by : Place → Option (ℕ × ℕ)
    by (Slot slot) = Some (slot, w.value)
    by other = None

-- the objects that it works on
abbrev pub objects_of : List Cell → Work → List ℕ
objects_of cells w = option_map_or (λ c. object_and_targets cells w.id c.0 c.1) w.change (w.id ∷ [])

-- their pages, in order; none without an object
abbrev pub pages_of_work : List Cell → Option Work → List ℕ
pages_of_work cells w = map page_of_id (option_map_or (objects_of cells) w [])

-- the page of an id, or the other one for null
abbrev pub page_or : ℕ → ℕ → ℕ
page_or id other = if id == 0 then other else page_of_id id

-- the pages of the object, of what the slot holds and of what it is to hold; for null, and where no slot changes, the object's
-- again
abbrev pub three_pages : List Cell → Work → List ℕ
three_pages cells w =
    let first = page_of_id w.id in
    first ∷ option_map_or (λ c. page_or (pointer_at cells w.id c.0).target first ∷ page_or c.1 first ∷ []) w.change (first ∷ first ∷ [])

-- the ids are small, and the slot is one of an object's
pub record IsWork (slots : ℕ) (w : Work) : Type 0 where
  pub above : 0 < w.id
  pub small : w.id < 65536
  pub change : IfSome w.change (λ c. (c.0 < slots) × (c.1 < 65536))

-- ids of a store, three at most
pub record AreFew (ids : ℕ) (objects : List ℕ) : Type 0 where
  pub few : length objects ≤ 3
  pub within : AllByRecursion (λ id. (0 < id) × (id ≤ ids)) objects

-- it is work in a store with so many ids and these cells, or there is none
pub record IsWorkIn (slots ids : ℕ) (cells : List Cell) (work : Option Work) : Type 0 where
  pub small : IfSome work (IsWork slots)
  pub few : AreFew ids (option_map_or (objects_of cells) work [])

-- in these cells what the slot holds is small
abbrev pub HasSmallTargets : List Cell → Type 0
HasSmallTargets cells = (id slot : ℕ) → (pointer_at cells id slot).target < 65536
