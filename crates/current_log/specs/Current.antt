-- The current log of a store, and why it isn't read.
use Rattle.std.specs.Prelude.{◌≡◌, ℕ, ◌+◌, List, length, Some, None, ⊤}
use Rattle.disk_model.specs.declared.area.Area.{Area}
use Rattle.disk_model.specs.declared.area.Area.TheVariants.{LogA as AreaA, LogB as AreaB}
use Rattle.disk_model.specs.Areas.{Bytes, in_area}
use Rattle.gate_log.specs.OnDisk.{named_by}
use Rattle.log_record.specs.declared.record.Record.{Record}
use Rattle.opened_images.specs.LogRecords.{log_bytes, IsOfVersion, IsDamagedLog}
use Rattle.gate_log.specs.declared.refusal.LogRefusal.{LogRefusal}
use Rattle.gate_log.specs.declared.refusal.LogRefusal.TheVariants.{Disk as LogDisk, LogFull as LogLogFull, Damaged as LogDamaged, Memory as LogMemory}
use Rattle.opened_images.specs.Opened.{IsLogRead}
use Rattle.store_opening.specs.declared.open_refusal.OpenRefusal.{OpenRefusal}
use Rattle.store_opening.specs.declared.open_refusal.OpenRefusal.TheVariants.{Disk, Damaged, NoStore, UnknownVersion, Unsound, Memory, LogFull}
use Rattle.store_opening.specs.declared.open_refusal.Place.TheVariants.{LogA, LogB, Page}
use Rattle.store_opening.specs.Store.{place_of}

-- The super area of the image names this area, which is the log of a store of so many pages: it has so many bytes with its closed
-- commit byte.
pub record HasCurrentLog (slots : ℕ) (image : Bytes) (area : Area) (pages len : ℕ) : Type 0 where
  pub batches : List (List (Record slots))
  pub read : IsLogRead image area pages batches
  pub all : len ≡ length (log_bytes pages batches) + 1

-- the log area of this name, which the super area names, is damaged there
pub record IsDamagedIn (slots : ℕ) (image : Bytes) (area : Area) (at : ℕ) : Type 0 where
  pub named : named_by image.super_area ≡ Some area
  pub damaged : IsDamagedLog slots (in_area image area) at

-- the log that the super area names is of this version, which isn't known
pub record IsOfVersionIn (slots : ℕ) (image : Bytes) (byte : ℕ) : Type 0 where
  pub area : Area
  pub named : named_by image.super_area ≡ Some area
  pub version : IsOfVersion slots byte (in_area image area)

-- The refusal is why the current log of the image isn't read: there is no store, or the log is damaged or of a version that isn't
-- known. That the disk failed or memory ran out tells nothing of the image, and no other refusal comes.
abbrev pub RefusesLog : (slots : ℕ) → Bytes → OpenRefusal → Type 0
RefusesLog slots image Disk = ⊤
RefusesLog slots image (Damaged LogA at) = IsDamagedIn slots image AreaA at
RefusesLog slots image (Damaged LogB at) = IsDamagedIn slots image AreaB at
RefusesLog slots image (Damaged (Page page) at) = ⊥
RefusesLog slots image NoStore = named_by image.super_area ≡ None
RefusesLog slots image (UnknownVersion byte) = IsOfVersionIn slots image byte
RefusesLog slots image (Unsound id rule) = ⊥
RefusesLog slots image Memory = ⊤
RefusesLog slots image LogFull = ⊥

-- the refusal of a log in this area that is damaged there
abbrev pub damaged_in : Area → ℕ → OpenRefusal
damaged_in area at = Damaged (place_of area) at

-- the refusal of a batch of the log in this area, as one of the store; a log that is read is never full
abbrev pub refusal_in : Area → LogRefusal → OpenRefusal
refusal_in area LogDisk = Disk
refusal_in area (LogDamaged at) = damaged_in area at
refusal_in area (LogLogFull used) = Memory
refusal_in area LogMemory = Memory

-- The refusal is why the log in this area, which has these bytes, isn't read.
abbrev pub RefusesLogIn : (slots : ℕ) → Area → OpenRefusal → List ℕ → Type 0
RefusesLogIn slots area Disk bytes = ⊤
RefusesLogIn slots area (Damaged place at) bytes = (place ≡ place_of area) × IsDamagedLog slots bytes at
RefusesLogIn slots area NoStore bytes = ⊥
RefusesLogIn slots area (UnknownVersion byte) bytes = IsOfVersion slots byte bytes
RefusesLogIn slots area (Unsound id rule) bytes = ⊥
RefusesLogIn slots area Memory bytes = ⊤
RefusesLogIn slots area LogFull bytes = ⊥

-- the refusal is one of a log that isn't read: no page and no object is told, and no log is full
abbrev pub IsOfLog : OpenRefusal → Type 0
IsOfLog (Damaged (Page page) at) = ⊥
IsOfLog (Unsound id rule) = ⊥
IsOfLog LogFull = ⊥
IsOfLog _ = ⊤
