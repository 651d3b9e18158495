-- Strong pointers, and that they form no cycle.
use Rattle.std.specs.Prelude.{◌≡◌, ℕ, true, List}
use Rattle.cell_model.specs.Cells.{Cell, pointer_at, is_live, is_strong}

-- a slot of a live cell holds a strong pointer to the target
pub record IsStrongAt (cells : List Cell) (id slot to : ℕ) : Type 0 where
  pub live : is_live cells id ≡ true
  pub target : (pointer_at cells id slot).target ≡ to
  pub not_null : to ≡ 0 → ⊥
  pub strong : is_strong cells (pointer_at cells id slot) ≡ true

-- a walk of one or more strong pointers
pub data StrongPath (cells : List Cell) («from» : ℕ) : ℕ → Type 0 where
  one : (slot to : ℕ) → IsStrongAt cells «from» slot to → StrongPath cells «from» to
  more : (via slot to : ℕ) → StrongPath cells «from» via → IsStrongAt cells via slot to → StrongPath cells «from» to

-- no walk of strong pointers leads back to where it began
abbrev pub HasNoStrongCycle : List Cell → Type 0
HasNoStrongCycle cells = (id : ℕ) → StrongPath cells id id → ⊥

-- no strong pointer leads out of the cell
abbrev pub HasNoStrongOut : List Cell → ℕ → Type 0
HasNoStrongOut cells id = (slot to : ℕ) → IsStrongAt cells id slot to → ⊥
