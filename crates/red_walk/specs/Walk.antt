-- The red walk of a round.
use Rattle.std.specs.Prelude.{◌≡◌, ℕ, ◌+◌, ◌-◌, ◌*◌, ◌<◌, Bool, ◌&&◌, ◌||◌, ◌==◌, nat_lt, List, [], ◌∷◌, ◌++◌, length, filter, map, take, drop, Option, Some, None, Contains, if◌then◌else◌}
use Rattle.cell_page.specs.Format.{IsSlotCount}
use Rattle.store_model.specs.Core.{Copy}
use Rattle.red_walk.specs.declared.red_at.RedAt.{RedAt}
use Rattle.red_walk.specs.declared.red_at.RedAt.TheVariants.{Look, Copy as CopyOf, Verdict}
use Rattle.red_walk.specs.Ids.{IsIdList}
use Rattle.ref_tables.specs.Queue.{has, without}

-- a round, as far as its walk has come
pub record Walk : Type 0 where
  -- the objects, in the order in which they joined
  pub list : List ℕ
  -- those that weren't removed from the round
  pub left : List ℕ
  -- the place in the list of the object whose slots are looked at, and the next slot
  pub place : ℕ
  pub slot : ℕ
  -- those that were copied so far, with the copies
  pub copies : List (ℕ × Copy)
  -- those that changed since the first copy, in the list's order
  pub touched : List ℕ
  -- the greatest id
  pub limit : ℕ

-- ---- what comes next

-- the first slot that wasn't looked at; where there is none, the first object that wasn't copied; then the verdict
abbrev pub first_of : List ℕ → ℕ → List ℕ → RedAt
first_of (id ∷ unwalked) slot uncopied = Look id slot
first_of [] slot (id ∷ uncopied) = CopyOf id
first_of [] slot [] = Verdict

-- it is a look
abbrev pub IsLook : RedAt → Type 0
IsLook (Look id slot) = Unit {0}
IsLook (CopyOf id) = ⊥
IsLook Verdict = ⊥

-- what the walk asks for next
abbrev pub next : Walk → RedAt
next w = first_of (drop w.place w.list) w.slot (drop (length w.copies) w.list)

-- ---- changes

-- no round is open
abbrev pub closed : ℕ → Walk
closed limit = record { list = []; left = []; place = 0; slot = 0; copies = []; touched = []; limit = limit }

-- a round opens with one object
abbrev pub opened : ℕ → ℕ → Walk
opened limit id = record (closed limit) { list = id ∷ []; left = id ∷ [] }

-- an object joins at the end
abbrev pub joined : Walk → ℕ → Walk
joined w id = record w { list = w.list ++ id ∷ []; left = w.left ++ id ∷ [] }

-- an object joins, if one does
abbrev pub joined_by : Walk → Option ℕ → Walk
joined_by w None = w
joined_by w (Some id) = joined w id

-- the cursor is at this slot of its object, or where the object has no such slot at the first slot of the next object
abbrev pub moved_to : ℕ → Walk → ℕ → Walk
moved_to slots w slot = if slot == slots then record w { place = w.place + 1; slot = 0 } else record w { slot = slot }

-- the cursor is at the next slot
abbrev pub moved : ℕ → Walk → Walk
moved slots w = moved_to slots w (w.slot + 1)

-- an object was copied
abbrev pub copied : Walk → ℕ → Copy → Walk
copied w id copy = record w { copies = w.copies ++ (id, copy) ∷ [] }

-- touches count: some object was copied
abbrev pub is_open : Walk → Bool
is_open w = nat_lt 0 (length w.copies)

-- from the first copy on, an object of the round that changes is touched
abbrev pub touched_at : Walk → ℕ → Walk
touched_at w id = if is_open w && has w.left id then record w { touched = filter (λ x. (x == id) || has w.touched x) w.list } else w

-- an object leaves the round
abbrev pub removed : Walk → ℕ → Walk
removed w id = record w { left = without w.left id }

-- ---- how much is left

-- how many looks and copies may still be asked for: one look for each slot of each object, also of those that may still join, and
-- one copy of each
abbrev pub work_left : ℕ → Walk → ℕ
work_left slots w = ((w.limit - w.place) * slots - w.slot) + (w.limit - length w.copies)

-- ---- what holds

-- what holds of every walk over objects with so many slots
pub record IsWalk (slots : ℕ) (w : Walk) : Type 0 where
  pub ids : IsIdList w.list w.limit
  pub slot_within : w.slot < slots
  pub slot_count : IsSlotCount slots
  -- what is left and what was touched is of the list
  pub left_listed : (id : ℕ) → Contains w.left id → Contains w.list id
  pub touched_listed : (id : ℕ) → Contains w.touched id → Contains w.list id
  -- objects are copied in the list's order, when all slots were looked at
  pub in_order : map (λ e. e.0) w.copies ≡ take (length w.copies) w.list
  pub quiet : w.place < length w.list → w.copies ≡ []
