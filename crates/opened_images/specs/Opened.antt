-- What an image of the four areas opens to.
use Rattle.std.specs.Prelude.{◌≡◌, ℕ, ◌<◌, ◌⊎◌, List, [], ◌∷◌, ◌++◌, reverse, Some, None}
use Rattle.cell_model.specs.Cells.{Cell}
use Rattle.cell_model.specs.Records.{after_record}
use Rattle.disk_model.specs.declared.area.Area.{Area}
use Rattle.disk_model.specs.Areas.{Bytes, in_area}
use Rattle.gate_log.specs.OnDisk.{named_by}
use Rattle.log_record.specs.declared.record.Record.{Record}
use Rattle.restart_laws.specs.Unended.{Change, Unended}
use Rattle.restart_laws.specs.Restored.{undo_of, undo_records, after_records, restored, CanBeUndone, CanAllBeUndone, CanRestart}
use Rattle.restart_laws.specs.Rules.{BreaksRule, IsFirstBroken}
use Rattle.opened_images.specs.LogRecords.{all_of, unended_behind, next_record_at, IsOfVersion, IsRecordLog, IsDamagedLog}
use Rattle.opened_images.specs.Replayed.{cells_of_log, IsDamagedPage, FitsCellsOf, AllFitCells}

-- why it is refused, or the cells that the store goes on with
pub data Outcome : Type 0 where
  NoStore : Outcome
  UnknownVersion : (byte : ℕ) → Outcome
  DamagedLog : (area : Area) (at : ℕ) → Outcome
  DamagedPage : (page at : ℕ) → Outcome
  Unsound : (id rule : ℕ) → Outcome
  OpensTo : (cells : List Cell) → Outcome

-- ---- the store rules

-- none of the first four is broken
abbrev pub KeepsRules : List Cell → Type 0
KeepsRules cells = (rule id : ℕ) → BreaksRule cells rule id → ⊥

-- the fifth, in the order of the undo: the first of these changes that can't be undone is one of this object
abbrev pub IsStuckAt : ℕ → List Cell → ℕ → List Change → ℕ → Type 0
IsStuckAt slots cells pass [] id = ⊥
IsStuckAt slots cells pass (c ∷ cs) id =
    ((CanBeUndone cells c → ⊥) × (id ≡ c.id)) ⊎ (CanBeUndone cells c × IsStuckAt slots (after_record slots cells (undo_of cells pass c)) pass cs id)

-- so it is with the changes of these transactions, each from its last change on
abbrev pub RestartsStuckAt : ℕ → List Cell → List (ℕ × Unended) → ℕ → Type 0
RestartsStuckAt slots cells [] id = ⊥
RestartsStuckAt slots cells (e ∷ es) id =
    IsStuckAt slots cells e.0 (reverse e.1.changes) id
    ⊎ (CanAllBeUndone slots cells e.0 (reverse e.1.changes) × RestartsStuckAt slots (after_records slots cells (undo_records slots cells e.0 (reverse e.1.changes))) es id)

-- ---- the tests in order, each with what passed before it

-- the super area names this area, which is the log of a store of so many pages, with these batches of records
pub record IsLogRead {slots : ℕ} (image : Bytes) (area : Area) (pages : ℕ) (batches : List (List (Record slots))) : Type 0 where
  pub named : named_by image.super_area ≡ Some area
  pub log : IsRecordLog pages batches (in_area image area)

-- and each page without an image is whole
pub record ArePagesRead {slots : ℕ} (image : Bytes) (area : Area) (pages : ℕ) (batches : List (List (Record slots))) : Type 0 where
  pub read : IsLogRead image area pages batches
  pub whole : (page at : ℕ) → page < pages → IsDamagedPage image.pages (all_of batches) page at → ⊥

-- and each record fits the cells, so that these are the cells after the log
pub record AreCellsRead {slots : ℕ} (image : Bytes) (area : Area) (pages : ℕ) (batches : List (List (Record slots))) (cells : List Cell) : Type 0 where
  pub pages_read : ArePagesRead image area pages batches
  pub fit : AllFitCells pages image.pages [] (all_of batches) []
  pub are : cells ≡ cells_of_log slots pages image.pages (all_of batches)

-- In a store whose objects have so many slots, this image opens to that.
pub data Opened (slots : ℕ) (image : Bytes) : Outcome → Type 0 where
  no_store : named_by image.super_area ≡ None → Opened slots image NoStore
  damaged_log : (area : Area) (at : ℕ) → named_by image.super_area ≡ Some area → IsDamagedLog slots (in_area image area) at → Opened slots image (DamagedLog area at)
  unknown_version : (area : Area) (byte : ℕ) → named_by image.super_area ≡ Some area → IsOfVersion slots byte (in_area image area) → Opened slots image (UnknownVersion byte)
  -- the first page without an image that isn't whole
  damaged_page : (area : Area) (pages : ℕ) (batches : List (List (Record slots))) (page at : ℕ) → IsLogRead image area pages batches → page < pages
      → IsDamagedPage image.pages (all_of batches) page at
      → ((lower place : ℕ) → lower < page → IsDamagedPage image.pages (all_of batches) lower place → ⊥) → Opened slots image (DamagedPage page at)
  -- the first record that doesn't fit the cells: it stands in the batch after `front`, after the records `before`
  unfit : (area : Area) (pages : ℕ) (front : List (List (Record slots))) (before : List (Record slots)) (r : Record slots) (after : List (Record slots)) (back : List (List (Record slots)))
      → ArePagesRead image area pages (front ++ (before ++ r ∷ after) ∷ back)
      → AllFitCells pages image.pages [] (all_of front ++ before) (r ∷ (after ++ all_of back))
      → (FitsCellsOf pages image.pages (all_of front ++ before) r (after ++ all_of back) → ⊥)
      → Opened slots image (DamagedLog area (next_record_at pages front before))
  -- the least of the first four rules that is broken, and the least object that breaks it
  unsound : (area : Area) (pages : ℕ) (batches : List (List (Record slots))) (cells : List Cell) (rule id : ℕ) → AreCellsRead image area pages batches cells
      → IsFirstBroken cells rule id → Opened slots image (Unsound id rule)
  stuck : (area : Area) (pages : ℕ) (batches : List (List (Record slots))) (cells : List Cell) (id : ℕ) → AreCellsRead image area pages batches cells → KeepsRules cells
      → RestartsStuckAt slots cells (unended_behind batches) id → Opened slots image (Unsound id 5)
  opens : (area : Area) (pages : ℕ) (batches : List (List (Record slots))) (cells : List Cell) → AreCellsRead image area pages batches cells → KeepsRules cells
      → CanRestart slots cells (unended_behind batches) → Opened slots image (OpensTo (restored slots cells (unended_behind batches)))
