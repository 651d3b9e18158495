-- The undo of what a log left: its records, one after another, and what it leads to.
use Rattle.std.specs.Prelude.{◌≡◌, ℕ, suc, ◌+◌, ◌*◌, List, [], ◌∷◌, ◌++◌, length, Some}
use Rattle.cell_model.specs.Consistent.{AreConsistent}
use Rattle.log_record.specs.declared.record.Record.{Record}
use Rattle.log_record.specs.Spelling.{record_bytes, IsTypedRecord}
use Rattle.log_replay.specs.Replays.{Replaying}
use Rattle.log_replay.specs.Finishes.{FinishesBy, change_to_undo}
use Rattle.opened_images.specs.LogRecords.{body_of, HaveSpellings, AllFitLog}
use Rattle.page_marks.specs.declared.marks.PageMark.{PageMark}
use Rattle.page_marks.specs.Marks.{AreMarkedBy, AreMarkedByAll}
use Rattle.restart_laws.specs.Unended.{Change, Unended}
use Rattle.restart_laws.specs.Restored.{restored, CanBeUndone, CanRestart}

-- how many records are left to be made: one for each change, and one for the end of each transaction
abbrev pub to_undo : List (ℕ × Unended) → ℕ
to_undo [] = 0
to_undo (e ∷ es) = suc (length e.1.changes) + to_undo es

-- the next undo is this record, whose bytes were appended, and the marks are changed by it
pub record UndoesOne (slots : ℕ) (v : Replaying) (bytes : List ℕ) (before : List PageMark) (w : Replaying) (new_bytes : List ℕ) (now : List PageMark) : Type 0 where
  pub r : Record slots
  pub finishes : FinishesBy {slots = slots} v (Some r) w
  pub typed : IsTypedRecord r
  pub appended : new_bytes ≡ bytes ++ record_bytes r
  pub marked : AreMarkedBy r before now

-- these records are the next undos, one after another, and lead from consistent cells to this
abbrev pub Finishes : {slots : ℕ} → Replaying → List (Record slots) → Replaying → Type 0
Finishes v [] w = w ≡ v
Finishes {slots} v (r ∷ rs) w = (u : Replaying) × AreConsistent slots (8 * length v.skips) v.cells × FinishesBy {slots = slots} v (Some r) u × IsTypedRecord r × Finishes u rs w

-- so far these bytes were made, from this on to that, and the marks are changed by their records
pub record IsUndoing (slots : ℕ) (v : Replaying) (bytes : List ℕ) (w : Replaying) (before now : List PageMark) : Type 0 where
  pub records : List (Record slots)
  pub finishes : Finishes v records w
  pub are : bytes ≡ body_of records
  pub marked : AreMarkedByAll records before now

-- All that has not ended is undone: these bytes spell the records of the undo, which fit, and the cells are restored.
pub record IsUndone (slots : ℕ) (v : Replaying) (bytes : List ℕ) (w : Replaying) : Type 0 where
  pub records : List (Record slots)
  pub finishes : Finishes v records w
  pub are : bytes ≡ body_of records
  pub spelled : HaveSpellings records
  pub fit : AllFitLog (length v.skips) v.unended records
  pub can : CanRestart slots v.cells v.unended
  pub cells : w.cells ≡ restored slots v.cells v.unended
  pub none : w.unended ≡ []
  pub skips : w.skips ≡ v.skips
  pub consistent : AreConsistent slots (8 * length w.skips) w.cells

-- and the marks are changed by these records
abbrev pub IsUndoneWithMarks : (slots : ℕ) → Replaying → List ℕ → Replaying → (before now : List PageMark) → Type 0
IsUndoneWithMarks slots v bytes w before now = (u : IsUndone slots v bytes w) × AreMarkedByAll u.records before now

-- the change that is next to undo can't be undone, and is one of this object
abbrev pub IsStuck : Replaying → ℕ → Type 0
IsStuck v id = (c : Change) × (change_to_undo v.unended ≡ Some c) × (c.id ≡ id) × (CanBeUndone v.cells c → ⊥)
