-- What is read of a store before any record of its log is done to a page, and how that is refused.
use Rattle.std.specs.Prelude.{◌≡◌, ℕ, ◌≤◌, List, ◌∷◌, Option, Some, Result, Err, IfErr, ⊤}
use Rattle.disk_model.specs.Causes.{Rose}
use Rattle.disk_model.specs.declared.area.Area.{Area}
use Rattle.disk_model.specs.declared.area.Area.TheVariants.{LogA as AreaA, LogB as AreaB}
use Rattle.disk_model.specs.Areas.{Bytes, in_area}
use Rattle.disk_model.specs.Told.{EachImage, IsSettled}
use Rattle.cell_page.specs.declared.cell.Cell.{Cell}
use Rattle.gate_log.specs.State.{LogState}
use Rattle.gate_log.specs.OnDisk.{IsOn}
use Rattle.log_record.specs.declared.record.Record.{Record}
use Rattle.opened_images.specs.LogRecords.{body_of, bodies_of, all_of, first_records}
use Rattle.page_marks.specs.declared.marks.PageMark.{PageMark}
use Rattle.page_marks.specs.Marks.{AreMarks}
use Rattle.opened_images.specs.Opened.{Opened, NoStore as NoStoreOutcome, UnknownVersion as UnknownVersionOutcome, DamagedLog, DamagedPage, Unsound as UnsoundOutcome}
use Rattle.store_opening.specs.declared.open_refusal.OpenRefusal.{OpenRefusal}
use Rattle.store_opening.specs.declared.open_refusal.OpenRefusal.TheVariants.{Disk, Damaged, NoStore, UnknownVersion, Unsound, Memory, LogFull}
use Rattle.store_opening.specs.declared.open_refusal.Place.{Place}
use Rattle.store_opening.specs.declared.open_refusal.Place.TheVariants.{LogA, LogB, Page}
use Rattle.store_opening.specs.declared.refusal.ReadRefusal.{ReadRefusal}
use Rattle.store_opening.specs.declared.refusal.ReadRefusal.TheVariants.{Disk as ReadDisk, Damaged as ReadDamaged, UnknownVersion as ReadUnknown, Memory as ReadMemory}
use Rattle.store_opening.specs.declared.pages.PagesRefusal.{PagesRefusal}
use Rattle.store_opening.specs.declared.pages.PagesRefusal.TheVariants.{Disk as PagesDisk, Damaged as PagesDamaged, Memory as PagesMemory}
use Rattle.store_opening.specs.Replayed.{IsReady, IsReplayed}
use Rattle.store_opening.specs.Room.{LacksRoom}
use Rattle.log_replay.specs.Replays.{Replaying}

-- ---- refusals

-- which part of the store a log area is
abbrev pub place_of : Area → Place
place_of AreaA = LogA
place_of _ = LogB

-- the refusal of a log in this area, as one of the store
abbrev pub refusal_of_log : Area → ReadRefusal → OpenRefusal
refusal_of_log area ReadDisk = Disk
refusal_of_log area (ReadDamaged at) = Damaged (place_of area) at
refusal_of_log area (ReadUnknown byte) = UnknownVersion byte
refusal_of_log area ReadMemory = Memory

-- the refusal of pages, as one of the store
abbrev pub refusal_of_pages : PagesRefusal → OpenRefusal
refusal_of_pages PagesDisk = Disk
refusal_of_pages (PagesDamaged page at) = Damaged (Page page) at
refusal_of_pages PagesMemory = Memory

-- the refusal is what the image opens to, or its log has no room to go on, unless the disk failed or memory ran out
abbrev pub Refuses : (slots : ℕ) → Bytes → OpenRefusal → Type 0
Refuses slots image Disk = ⊤
Refuses slots image (Damaged LogA at) = Opened slots image (DamagedLog AreaA at)
Refuses slots image (Damaged LogB at) = Opened slots image (DamagedLog AreaB at)
Refuses slots image (Damaged (Page page) at) = Opened slots image (DamagedPage page at)
Refuses slots image NoStore = Opened slots image NoStoreOutcome
Refuses slots image (UnknownVersion byte) = Opened slots image (UnknownVersionOutcome byte)
Refuses slots image (Unsound id rule) = Opened slots image (UnsoundOutcome id rule)
Refuses slots image Memory = ⊤
Refuses slots image LogFull = LacksRoom slots image

-- the refusal is on account of what the disk holds
abbrev pub IsOfStore : OpenRefusal → Type 0
IsOfStore Disk = ⊥
IsOfStore Memory = ⊥
IsOfStore _ = ⊤

module _ {D : Type 0} (content : D → Area → Option (List ℕ)) (may_leave : D → Area → List ℕ → Type 0) where
  -- A refusal on account of what the disk holds is final: all that the four areas read is there for good, so that a power loss
  -- leaves just that, and what it leaves is refused so.
  pub record IsFinal (slots : ℕ) (disk : D) (e : OpenRefusal) : Type 0 where
    pub settled : (area : Area) → IsSettled content may_leave disk area
    pub refuses : EachImage may_leave disk (λ image. Refuses slots image e)

-- no call of the disk failed
abbrev pub IsNoDisk : OpenRefusal → Type 0
IsNoDisk Disk = ⊥
IsNoDisk _ = ⊤

-- The disk's count of faults never falls. It rose where the refusal is `Disk`, and is as before at each other answer.
pub record HasOpenCause {T : Type 0} (before now : ℕ) (result : Result T OpenRefusal) : Type 0 where
  pub later : before ≤ now
  pub failed : result ≡ Err Disk → Rose before now
  pub kept : IfErr result IsNoDisk → now ≡ before

-- ---- what is read

-- the disk tells its four areas, and they read so
abbrev pub Reads : {D : Type 0} → (D → Area → Option (List ℕ)) → D → Bytes → Type 0
Reads content disk image = (area : Area) → content disk area ≡ Some (in_area image area)

module _ {D : Type 0} (may_leave : D → Area → List ℕ → Type 0) where
  -- The image is a store as far as its log and its pages in place tell. These are its pages in place, and how many
  -- images of each the log has; the log stands on the disk with its batches.
  pub record IsStoreRead (slots : ℕ) (image : Bytes) (pages : List (List (Cell slots))) (images : List ℕ) (log : LogState) (disk : D) : Type 0 where
    pub ready : IsReady slots image log.area pages images
    pub is_on : IsOn may_leave log disk (body_of (first_records slots ready.count) ∷ bodies_of ready.batches)

  -- The records of its log fit its cells, and the replay stands for the cells after them and for what has not ended; the
  -- log stands on the disk with its batches, and the marks are those of its records.
  pub record AreCellsFound (slots : ℕ) (image : Bytes) (w : Replaying) (marks : List PageMark) (log : LogState) (disk : D) : Type 0 where
    pub count : ℕ
    pub batches : List (List (Record slots))
    pub replayed : IsReplayed slots image log.area count batches w
    pub is_on : IsOn may_leave log disk (body_of (first_records slots count) ∷ bodies_of batches)
    pub marked : AreMarks (all_of batches) marks
