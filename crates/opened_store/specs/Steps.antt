-- What a store is that was replayed, and what a power loss may leave of it while its undo is written.
use Rattle.std.specs.Prelude.{◌≡◌, ℕ, List, ◌∷◌, Some, ⊤}
use Rattle.disk_model.specs.declared.area.Area.{Area}
use Rattle.disk_model.specs.Areas.{Bytes, in_area}
use Rattle.gate_log.specs.Batches.{IsLog, most_bytes}
use Rattle.gate_log.specs.OnDisk.{named_by}
use Rattle.log_record.specs.declared.record.Record.{Record}
use Rattle.log_replay.specs.Replays.{Replaying}
use Rattle.opened_images.specs.LogRecords.{body_of, first_records}
use Rattle.store_opening.specs.declared.open_refusal.OpenRefusal.{OpenRefusal}
use Rattle.store_opening.specs.declared.open_refusal.OpenRefusal.TheVariants.{Disk, Memory}
use Rattle.store_opening.specs.Replayed.{IsReplayed}

-- the replay stands for the cells of this image, and for what has not ended in it
pub record IsStoreOf (slots : ℕ) (image : Bytes) (v : Replaying) : Type 0 where
  pub area : Area
  pub count : ℕ
  pub batches : List (List (Record slots))
  pub replayed : IsReplayed slots image area count batches v

-- an image with the same pages, which names the log in this area, and that has these batches after its first one
pub record HasBatches (slots : ℕ) (image : Bytes) (area : Area) (count : ℕ) (bodies : List (List ℕ)) (other : Bytes) : Type 0 where
  pub pages : other.pages ≡ image.pages
  pub named : named_by other.super_area ≡ Some area
  pub log : IsLog most_bytes (body_of (first_records slots count) ∷ bodies) (in_area other area)

-- the refusal tells nothing of the image
abbrev pub IsLate : OpenRefusal → Type 0
IsLate Disk = ⊤
IsLate Memory = ⊤
IsLate _ = ⊥
