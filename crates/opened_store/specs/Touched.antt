-- What an opening touches of a disk.
use Rattle.std.specs.Prelude.{◌≡◌, ◌≢◌, ◌⊎◌, ℕ, ◌+◌, List, length, Option, Some, option_map, IfSome}
use Rattle.disk_model.specs.declared.area.Area.{Area}
use Rattle.disk_model.specs.declared.area.Area.TheVariants.{Pages, Super}
use Rattle.disk_model.specs.Areas.{Bytes, in_area}
use Rattle.disk_model.specs.Told.{Keeps, Leaves}
use Rattle.disk_model.specs.Time.{LeavesOnlyImages}
use Rattle.gate_log.specs.OnDisk.{named_by}
use Rattle.gate_log.specs.State.{LogState, IsLogArea, batch_length, forced_area}
use Rattle.log_record.specs.declared.record.Record.{Record}
use Rattle.opened_images.specs.LogRecords.{log_bytes, unended_behind, IsRecordLog}
use Rattle.store_opening.specs.Looks.{IsLookedAt}
use Rattle.store_opening.specs.Room.{undo_size}
use Rattle.store_opening.specs.Store.{Reads}
use Rattle.opened_store.specs.Lengths.{Extends}

-- An image at a moment of an opening of this disk, which read so: the super area and the other log area are ones from before. The
-- pages area is one from before, or what was read there with more bytes after.
pub record IsTouched {D : Type 0} (may_leave : D → Area → List ℕ → Type 0) (before : D) (log : Area) (read image : Bytes) : Type 0 where
  pub others : (area : Area) → area ≢ log → area ≢ Pages → may_leave before area (in_area image area)
  pub pages : may_leave before Pages image.pages ⊎ Extends read.pages image.pages

module _ {D : Type 0} (content : D → Area → Option (List ℕ)) (may_leave : D → Area → List ℕ → Type 0) (moment : D → ℕ) (left_since : D → ℕ → Bytes → Type 0) where
  -- Only the log area that the super area names was touched, and the pages area: the super area and the other log area read as
  -- before, and a power loss leaves nothing new there. In the pages area it leaves what it might have left before, or what was
  -- read there with more bytes after. So it is at each moment.
  pub record TouchesOnly (before now : D) (log : Area) : Type 0 where
    pub is_log : IsLogArea log
    pub named : IfSome (content before Super) (λ bytes. named_by bytes ≡ Some log)
    pub others : (area : Area) → area ≢ log → area ≢ Pages → Keeps content may_leave before now area
    pub pages : IfSome (content before Pages) (λ read. Leaves may_leave now Pages (λ bytes. may_leave before Pages bytes ⊎ Extends read bytes))
    pub moments : (read : Bytes) → Reads content before read → LeavesOnlyImages moment left_since before now (IsTouched may_leave before log read)

  -- that, or nothing was
  abbrev pub Touches : D → D → Type 0
  Touches before now = IsLookedAt content may_leave moment left_since before now ⊎ ((log : Area) × TouchesOnly before now log)

-- The area of this log reads as before, but for the batch of an undo at the place of its closed commit byte, where there is one. Of
-- a disk that is told these are as many bytes as the records have that undo what had not ended in its log.
pub record GetsUndo {D : Type 0} (content : D → Area → Option (List ℕ)) (slots : ℕ) (before now : D) (log : LogState) : Type 0 where
  pub place : ℕ
  pub undo : List ℕ
  pub reads : content now log.area ≡ option_map (forced_area place undo) (content before log.area)
  pub stands : log.durable ≡ place + batch_length undo
  pub of_log : (image : Bytes) → Reads content before image → (pages : ℕ) × (batches : List (List (Record slots))) × IsRecordLog pages batches (in_area image log.area)
      × (place ≡ length (log_bytes pages batches)) × (length undo ≡ undo_size (unended_behind batches))
