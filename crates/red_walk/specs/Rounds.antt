-- What a walk is to the round of a journal.
use Rattle.std.specs.Prelude.{◌≡◌, ◌↔◌, ℕ, ◌<◌, ◌≤◌, true, false, List, [], map, Option, Some, Contains}
use Rattle.cell_page.specs.declared.cell.Cell.{Cell}
use Rattle.cell_page.specs.Stored.{cell_of}
use Rattle.store_model.specs.Core.{Round, Copy}
use Rattle.store_model.specs.Sound.{IsOnce}
use Rattle.store_model.specs.Steps.{opened_round, with_listed, with_copy, IsTouched, IsQuiet, IsWithout}
use Rattle.red_walk.specs.declared.red_at.RedAt.TheVariants.{Look, Copy as CopyOf, Verdict}
use Rattle.ref_tables.specs.Queue.{has}
use Rattle.red_walk.specs.Walk.{Walk, IsWalk, IsLook, next, opened, joined_by, moved, moved_to, copied, touched_at, removed, work_left}
use Rattle.red_walk.specs.Inside.{copy_of_seen}

-- the round before its verdict
abbrev pub round_of : Walk → Round
round_of w = record { list = w.left; copies = w.copies; touched = w.touched; judged = false; condemned = [] }

-- the test that the calls answer by says what is in a list
abbrev pub HasLaw : Type 0
HasLaw = (ids : List ℕ) (id : ℕ) → (has ids id ≡ true) ↔ Contains ids id

-- it opens with one object
abbrev pub OpenedLaw : Type 0
OpenedLaw = (limit id : ℕ) → round_of (opened limit id) ≡ opened_round id

-- a slot that was looked at changes nothing
abbrev pub MovedLaw : Type 0
MovedLaw = (slots : ℕ) (w : Walk) → round_of (moved slots w) ≡ round_of w

-- who goes to a slot and from there to another one has gone to that one
abbrev pub MovedToLaw : Type 0
MovedToLaw = (slots : ℕ) (w : Walk) (slot other : ℕ) → slot < slots → moved_to slots (moved_to slots w slot) other ≡ moved_to slots w other

-- an object that joins is listed
abbrev pub JoinedLaw : Type 0
JoinedLaw = (slots : ℕ) (w : Walk) (id : ℕ) → round_of (joined_by (moved slots w) (Some id)) ≡ with_listed (round_of w) id

-- a copy is the cell's
abbrev pub CopiedLaw : Type 0
CopiedLaw =
    (slots : ℕ) (w : Walk) (id : ℕ) (c : Cell slots) → round_of (copied w id (copy_of_seen {slots = slots} (record { slots = c.slots; strong = c.strong; weak = c.weak }))) ≡ with_copy (round_of w) id (cell_of c)

-- the round after a touch has the same and more marks, and until an object is removed it has that of the object where a copy
-- could be wrong
pub record Touches (old new : Walk) (id : ℕ) : Type 0 where
  pub others : round_of new ≡ record (round_of old) { touched = new.touched }
  pub grown : (x : ℕ) → Contains old.touched x → Contains new.touched x
  pub marked : old.left ≡ old.list → IsTouched (Some (round_of new)) id

abbrev pub TouchedLaw : Type 0
TouchedLaw = (slots : ℕ) (w : Walk) (id : ℕ) → IsWalk slots w → Touches w (touched_at w id) id

-- an object that is removed is in the round no more, and all others stay
pub record Removes (old new : Walk) (id : ℕ) : Type 0 where
  pub others : round_of new ≡ record (round_of old) { list = new.left }
  pub once : IsOnce new.left
  pub without : IsWithout old.left id new.left

abbrev pub RemovedLaw : Type 0
RemovedLaw = (w : Walk) (id : ℕ) → IsOnce w.left → Removes w (removed w id) id

-- while slots are looked at, no copy waits for the verdict
abbrev pub LookLaw : Type 0
LookLaw = (slots : ℕ) (w : Walk) (id slot : ℕ) → IsWalk slots w → next w ≡ Look id slot → Contains w.list id × IsQuiet (round_of w)

-- only objects of the round are copied
abbrev pub CopyLaw : Type 0
CopyLaw = (w : Walk) (id : ℕ) → next w ≡ CopyOf id → Contains w.list id

-- at the verdict the whole list is copied
abbrev pub VerdictLaw : Type 0
VerdictLaw = (slots : ℕ) (w : Walk) → IsWalk slots w → next w ≡ Verdict → map (λ e. e.0) w.copies ≡ w.list

-- each look leaves less work
abbrev pub LookWorkLaw : Type 0
LookWorkLaw = (slots : ℕ) (w : Walk) (id slot : ℕ) → IsWalk slots w → next w ≡ Look id slot → work_left slots (moved slots w) < work_left slots w

-- each copy leaves less work
abbrev pub CopyWorkLaw : Type 0
CopyWorkLaw = (slots : ℕ) (w : Walk) (id : ℕ) (copy : Copy) → IsWalk slots w → next w ≡ CopyOf id → work_left slots (copied w id copy) < work_left slots w

-- who joins was counted before
abbrev pub JoinWorkLaw : Type 0
JoinWorkLaw = (slots : ℕ) (w : Walk) (joins : Option ℕ) → work_left slots (joined_by w joins) ≡ work_left slots w

-- a touch leaves the work as it was
abbrev pub TouchWorkLaw : Type 0
TouchWorkLaw = (slots : ℕ) (w : Walk) (id : ℕ) → work_left slots (touched_at w id) ≡ work_left slots w

-- an object that is removed is still looked at and copied
abbrev pub RemoveWorkLaw : Type 0
RemoveWorkLaw = (slots : ℕ) (w : Walk) (id : ℕ) → work_left slots (removed w id) ≡ work_left slots w

-- what holds of every walk holds after each of its changes
abbrev pub MovedWalkLaw : Type 0
MovedWalkLaw = (slots : ℕ) (w : Walk) → IsWalk slots w → IsWalk slots (moved slots w)

abbrev pub JoinedWalkLaw : Type 0
JoinedWalkLaw = (slots : ℕ) (w : Walk) (id : ℕ) → IsWalk slots w → IsLook (next w) → 1 ≤ id → id ≤ w.limit → has w.list id ≡ false → IsWalk slots (joined_by (moved slots w) (Some id))

abbrev pub CopiedWalkLaw : Type 0
CopiedWalkLaw = (slots : ℕ) (w : Walk) (id : ℕ) (copy : Copy) → IsWalk slots w → next w ≡ CopyOf id → IsWalk slots (copied w id copy)

abbrev pub TouchedWalkLaw : Type 0
TouchedWalkLaw = (slots : ℕ) (w : Walk) (id : ℕ) → IsWalk slots w → IsWalk slots (touched_at w id)

abbrev pub RemovedWalkLaw : Type 0
RemovedWalkLaw = (slots : ℕ) (w : Walk) (id : ℕ) → IsWalk slots w → IsWalk slots (removed w id)
