-- Marks on objects: those that strong pointers can't lead back to, and those to which they lead.
use Rattle.std.specs.Prelude.{◌≡◌, ◌⊎◌, ℕ, ◌+◌, ◌<◌, ◌≤◌, Bool, true, false, not, List, length, slice_index_or, Contains, count_by}
use Rattle.cell_model.specs.Cells.{Cell}
use Rattle.cell_model.specs.Strong.{IsStrongAt, StrongPath}

-- the object is marked
abbrev pub IsMarked : List Bool → ℕ → Type 0
IsMarked marks id = slice_index_or marks id false ≡ true

-- a number of the table is in its range
abbrev pub AreIds : ℕ → List ℕ → Type 0
AreIds len ids = (x : ℕ) → Contains ids x → (0 < x) × (x < len)

-- each strong pointer of the object leads to a marked one
abbrev pub LeadsToMarked : List Cell → List Bool → ℕ → Type 0
LeadsToMarked cells marks id = (slot to : ℕ) → IsStrongAt cells id slot to → IsMarked marks to

-- Strong pointers of the marked objects lead to marked ones alone, and from none of them back to it.
pub record AreSettled (cells : List Cell) (marks : List Bool) : Type 0 where
  pub len : length marks ≡ length cells
  pub closed : (id : ℕ) → IsMarked marks id → LeadsToMarked cells marks id
  pub no_cycle : (id : ℕ) → IsMarked marks id → StrongPath cells id id → ⊥

-- how many objects are not marked
abbrev pub unmarked : List Bool → ℕ
unmarked marks = count_by not marks

-- These marks came to those, each for an object that waits in the list now, and what waited waits; only an object with the
-- property came to be marked.
pub record Spreads (Reached : ℕ → Type 0) (marks : List Bool) (work : List ℕ) (new_marks : List Bool) (new_work : List ℕ) : Type 0 where
  pub len : length new_marks ≡ length marks
  pub stay : (x : ℕ) → IsMarked marks x → IsMarked new_marks x
  pub reached : (x : ℕ) → IsMarked new_marks x → IsMarked marks x ⊎ Reached x
  pub wait : (x : ℕ) → IsMarked new_marks x → IsMarked marks x ⊎ Contains new_work x
  pub waiting : (x : ℕ) → Contains work x → Contains new_work x
  pub added : (x : ℕ) → Contains new_work x → Contains work x ⊎ Reached x
  pub ids : AreIds (length marks) work → AreIds (length marks) new_work
  pub fewer : unmarked new_marks + length new_work ≤ unmarked marks + length work

-- a strong pointer of the object leads there
pub record IsStrongTarget (cells : List Cell) (id to : ℕ) : Type 0 where
  pub slot : ℕ
  pub is : IsStrongAt cells id slot to

-- What a search along strong pointers from an object has found: the marked and the waiting objects are reached, and where a
-- marked one does not wait all its strong pointers lead to marked ones.
pub record IsSearching (cells : List Cell) (id : ℕ) (marks : List Bool) (work : List ℕ) : Type 0 where
  pub len : length marks ≡ length cells
  pub ids : AreIds (length marks) work
  pub first : LeadsToMarked cells marks id
  pub reached : (x : ℕ) → IsMarked marks x → StrongPath cells id x
  pub waiting : (x : ℕ) → Contains work x → StrongPath cells id x
  pub spread : (x : ℕ) → IsMarked marks x → Contains work x ⊎ LeadsToMarked cells marks x
