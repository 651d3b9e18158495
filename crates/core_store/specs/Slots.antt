-- What a change of a slot is asked for, and what it leaves.
use Rattle.std.specs.Prelude.{◌≡◌, ◌≢◌, ℕ, ◌+◌, ◌^◌, ◌<◌, ◌≤◌, ◌==◌, ◌&&◌, Bool, true, not, List, length, map}
use Rattle.std.specs.List.{AllByRecursion}
use Rattle.plain_model.specs.Graphs.{root}
use Rattle.cell_model.specs.Cells.{Pointer, Cell, is_live, is_strong, cell_at, pointer_at, other_strength, relinked, edit, flipped, counted, gains, loses}
use Rattle.cell_model.specs.Consistent.{AreConsistent}
use Rattle.cell_page.specs.Format.{page_of_id}
use Rattle.core_store.specs.declared.three.HeldFrame.{HeldFrame}
use Rattle.core_store.specs.declared.slots.SlotChange.{SlotChange}
use Rattle.core_store.specs.declared.slots.Pointer.{Pointer as HeldPointer}
use Rattle.core_store.specs.Frames.{is_held, Agree, IsSameElsewhere}
use Rattle.core_store.specs.Changes.{after_change, has_no_strong, is_counted_strong}
use Rattle.core_store.specs.Logged.{object_and_targets}

-- the page of each of these ids is held
abbrev pub HoldsPagesOf : {slots : ℕ} → List (HeldFrame slots) → List ℕ → Type 0
HoldsPagesOf held ids = AllByRecursion (λ id. is_held held (page_of_id id) ≡ true) ids

-- the slot is one of a live cell, and the target is live where it isn't null
pub record CanChange (slots ids : ℕ) (cells : List Cell) (id slot target : ℕ) : Type 0 where
  pub consistent : AreConsistent slots ids cells
  pub few : ids ≤ 8192
  pub live : is_live cells id ≡ true
  pub within : slot < slots
  pub target_live : target ≢ 0 → is_live cells target ≡ true

-- some store's cells are held, whose slot can change, with the pages of the object, of the old target and of the new one; and
-- these are its marks
pub record IsReadyToChange {slots : ℕ} (held : List (HeldFrame slots)) (zeros : List Bool) (id slot target : ℕ) : Type 0 where
  pub ids : ℕ
  pub cells : List Cell
  pub agree : Agree cells held
  pub marks : zeros ≡ map has_no_strong cells
  pub can : CanChange slots ids cells id slot target
  pub pages : HoldsPagesOf held (object_and_targets cells id slot target)

-- from cells with these held pages and marks to those where the slot changed so; pages that aren't held stay
pub record IsChanged {slots : ℕ} (cells after : List Cell) (held new : List (HeldFrame slots)) (zeros marks : List Bool) : Type 0 where
  pub agree : Agree after new
  pub elsewhere : IsSameElsewhere cells after held
  pub marks_are : zeros ≡ map has_no_strong cells → marks ≡ map has_no_strong after

-- whatever cells are held in which the slot can change, it changes so
abbrev pub Changes : {slots : ℕ} → List (HeldFrame slots) → List (HeldFrame slots) → List Bool → List Bool → ℕ → ℕ → ℕ → (List Cell → SlotChange) → SlotChange → Type 0
Changes {slots} held new zeros marks id slot target change result =
    (ids : ℕ) (cells : List Cell) → Agree cells held → CanChange slots ids cells id slot target → (result ≡ change cells) × IsChanged cells (after_change cells id slot target result) held new zeros marks

-- some store's cells are held, whose slot holds a strong pointer, with the pages of the object and of its target; and these are
-- its marks
pub record IsReadyToWeaken {slots : ℕ} (held : List (HeldFrame slots)) (zeros : List Bool) (id slot : ℕ) : Type 0 where
  pub ready : IsReadyToChange held zeros id slot 0
  pub strong : is_counted_strong ready.cells (pointer_at ready.cells id slot) ≡ true

-- whatever cells are held whose slot holds a strong pointer, it becomes weak, and its target is told
abbrev pub WeakensSlot : {slots : ℕ} → List (HeldFrame slots) → List (HeldFrame slots) → List Bool → List Bool → ℕ → ℕ → ℕ → Type 0
WeakensSlot {slots} held new zeros marks id slot result =
    (ids : ℕ) (cells : List Cell) → Agree cells held → CanChange slots ids cells id slot 0 → is_counted_strong cells (pointer_at cells id slot) ≡ true
    → (result ≡ (pointer_at cells id slot).target) × IsChanged cells (relinked cells id slot (other_strength (pointer_at cells id slot))) held new zeros marks

-- the pointer isn't null, and it is weak
abbrev pub is_counted_weak : List Cell → Pointer → Bool
is_counted_weak cells p = not (p.target == 0) && not (is_strong cells p)

-- some store's cells are held, whose slot holds a weak pointer, with the pages of the object and of its target; and these are its
-- marks
pub record IsReadyToStrengthen {slots : ℕ} (held : List (HeldFrame slots)) (zeros : List Bool) (id slot : ℕ) : Type 0 where
  pub ready : IsReadyToChange held zeros id slot 0
  pub weak : is_counted_weak ready.cells (pointer_at ready.cells id slot) ≡ true

-- whatever cells are held whose slot holds a weak pointer, it becomes strong
abbrev pub StrengthensSlot : {slots : ℕ} → List (HeldFrame slots) → List (HeldFrame slots) → List Bool → List Bool → ℕ → ℕ → Type 0
StrengthensSlot {slots} held new zeros marks id slot =
    (ids : ℕ) (cells : List Cell) → Agree cells held → CanChange slots ids cells id slot 0 → is_counted_weak cells (pointer_at cells id slot) ≡ true → IsChanged cells (relinked cells id slot (other_strength (pointer_at cells id slot))) held new zeros marks

-- the object can be flipped: it is a live one of consistent cells, and no strong pointer leads to it
pub record CanFlip (slots ids : ℕ) (cells : List Cell) (id : ℕ) : Type 0 where
  pub consistent : AreConsistent slots ids cells
  pub few : ids ≤ 8192
  pub live : is_live cells id ≡ true
  pub not_root : id ≢ root
  pub zero : (cell_at cells id).strong ≡ 0

-- some store's cells are held, in which the object can be flipped, with its page; and these are its marks
pub record IsReadyToFlip {slots : ℕ} (held : List (HeldFrame slots)) (zeros : List Bool) (id : ℕ) : Type 0 where
  pub ids : ℕ
  pub cells : List Cell
  pub agree : Agree cells held
  pub marks : zeros ≡ map has_no_strong cells
  pub can : CanFlip slots ids cells id
  pub page : is_held held (page_of_id id) ≡ true

-- whatever cells are held in which the object can be flipped, it is
abbrev pub FlipsCell : {slots : ℕ} → List (HeldFrame slots) → List (HeldFrame slots) → List Bool → List Bool → ℕ → Type 0
FlipsCell {slots} held new zeros marks id = (ids : ℕ) (cells : List Cell) → Agree cells held → CanFlip slots ids cells id → IsChanged cells (edit cells id (flipped id)) held new zeros marks

-- some store's cells are held, and the object is a live one of them
pub record IsReadyToEdit {slots : ℕ} (held : List (HeldFrame slots)) (id : ℕ) : Type 0 where
  pub cells : List Cell
  pub agree : Agree cells held
  pub above : 0 < id
  pub small : id < 65536
  pub live : is_live cells id ≡ true
  pub page : is_held held (page_of_id id) ≡ true

-- ---- the parts of a change

-- what a slot holds, as the laws of a store see it
abbrev pub pointer_of : HeldPointer → Pointer
pointer_of p = record { target = p.target; bit = p.bit }

-- the cell counts a pointer with the other bit in place of one with this bit
abbrev pub turned : Bool → Cell → Cell
turned bit c = gains (not bit) (loses bit c)

-- the page of the id is held, and it has a mark
pub record HasPlace {slots : ℕ} (held : List (HeldFrame slots)) (zeros : List Bool) (id : ℕ) : Type 0 where
  pub above : 0 < id
  pub small : id < 65536
  pub page : is_held held (page_of_id id) ≡ true
  pub mark : id < length zeros

-- some store's cells are held, and the object is a live one of them, with a mark, which counts a pointer with this bit
pub record IsReadyToLose {slots : ℕ} (held : List (HeldFrame slots)) (zeros : List Bool) (id : ℕ) (bit : Bool) : Type 0 where
  pub cells : List Cell
  pub agree : Agree cells held
  pub live : is_live cells id ≡ true
  pub place : HasPlace held zeros id
  pub some : 0 < counted bit (cell_at cells id)

-- some store's cells are held, and the object is a live one of them, with a mark, which can count a pointer with this bit more
pub record IsReadyToGain {slots : ℕ} (held : List (HeldFrame slots)) (zeros : List Bool) (id : ℕ) (bit : Bool) : Type 0 where
  pub cells : List Cell
  pub agree : Agree cells held
  pub live : is_live cells id ≡ true
  pub place : HasPlace held zeros id
  pub room : counted bit (cell_at cells id) + 1 < 2 ^ 32
