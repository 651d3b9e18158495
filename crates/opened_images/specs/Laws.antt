-- What holds of openings.
use Rattle.std.specs.Prelude.{◌≡◌, ℕ, ◌*◌, ◌≤◌, List}
use Rattle.cell_model.specs.Cells.{Cell}
use Rattle.cell_model.specs.Consistent.{AreConsistent}
use Rattle.cell_page.specs.Format.{IsSlotCount}
use Rattle.disk_model.specs.Areas.{Bytes}
use Rattle.log_record.specs.declared.record.Record.{Record}
use Rattle.opened_images.specs.LogRecords.{body_of, HaveSpellings, IsRecordLog, IsDamagedLog}
use Rattle.opened_images.specs.Opened.{Outcome, OpensTo, Opened}

-- ---- log areas

-- a body has one list of records
abbrev pub OneBodyLaw : Type 0
OneBodyLaw = (slots : ℕ) (rs ss : List (Record slots)) → IsSlotCount slots → HaveSpellings rs → HaveSpellings ss → body_of rs ≡ body_of ss → rs ≡ ss

-- a log area tells one number of pages and one list of batches of records
abbrev pub OneLogLaw : Type 0
OneLogLaw = (slots : ℕ) (area : List ℕ) (pages count : ℕ) (these those : List (List (Record slots))) → IsSlotCount slots
    → IsRecordLog pages these area → IsRecordLog count those area → (pages ≡ count) × (these ≡ those)

-- no log is damaged
abbrev pub UndamagedLaw : Type 0
UndamagedLaw = (slots : ℕ) (area : List ℕ) (pages place : ℕ) (batches : List (List (Record slots))) → IsSlotCount slots → IsRecordLog pages batches area → IsDamagedLog slots area place → ⊥

-- an area is damaged at one place at most
abbrev pub OnePlaceLaw : Type 0
OnePlaceLaw = (slots : ℕ) (area : List ℕ) (place other : ℕ) → IsSlotCount slots → IsDamagedLog slots area place → IsDamagedLog slots area other → place ≡ other

-- ---- images

-- an image opens to one outcome at most
abbrev pub OneOutcomeLaw : Type 0
OneOutcomeLaw = (slots : ℕ) (image : Bytes) (a b : Outcome) → IsSlotCount slots → Opened slots image a → Opened slots image b → a ≡ b

-- no image is without an outcome: it can't be that there is none to which it opens
abbrev pub NoneWithoutLaw : Type 0
NoneWithoutLaw = (slots : ℕ) (image : Bytes) → ((o : Outcome) → Opened slots image o → ⊥) → ⊥

-- the cells that an image opens to are consistent, in a store of 1 to 1,024 pages
abbrev pub OpenedCellsLaw : Type 0
OpenedCellsLaw = (slots : ℕ) (image : Bytes) (cells : List Cell) → Opened slots image (OpensTo cells) → (pages : ℕ) × ((1 ≤ pages) × (pages ≤ 1024) × AreConsistent slots (8 * pages) cells)
