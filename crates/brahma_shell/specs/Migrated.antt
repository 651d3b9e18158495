-- How a migration of a store ends.
use Rattle.std.specs.Prelude.{◌≡◌, ◌≢◌, ◌⊎◌, ℕ, ◌+◌, List, [], length, Option, IsSome}
use Rattle.std.specs.Io.KnownBytes.{Appends}
use Rattle.disk_model.specs.declared.area.Area.{Area}
use Rattle.disk_model.specs.Areas.{Bytes}
use Rattle.disk_model.specs.Causes.{Rose}
use Rattle.disk_model.specs.Told.{IsImage, EachImage}
use Rattle.disk_model.specs.Time.{LeavesOnlyImages}
use Rattle.cell_model.specs.Cells.{Cell}
use Rattle.cell_model.specs.Graph.{graph_of}
use Rattle.opened_images.specs.Opened.{Opened, OpensTo}
use Rattle.opened_store.specs.Steps.{IsLate}
use Rattle.opened_store.specs.Unopened.{DoesNotOpen}
use Rattle.store_opening.specs.declared.open_refusal.OpenRefusal.{OpenRefusal}
use Rattle.store_opening.specs.declared.open_refusal.OpenRefusal.TheVariants.{UnknownVersion}
use Rattle.store_opening.specs.Looks.{IsLookedAt}
use Rattle.store_opening.specs.Store.{Reads}
use Rattle.journal_opening.specs.Openings.{OpensMeanwhile}
use Rattle.store_migration.specs.Migrated.{OpensNarrowOrWide, OpensToObjects, IsMigrated, RefusesBoth}
use Rattle.script_lines.specs.Output.{AppendsFront, pages_line, open_refusal_line}
use Rattle.brahma_shell.specs.declared.ended.Ended.{Ended}
use Rattle.brahma_shell.specs.Ended.{shut_in, disk_in}
use Rattle.brahma_shell.specs.Top.{Outside, Ends, status_of_refusal}

-- ---- stores of both versions

-- the store of this image opens at six slots or at fourteen, and has so many ids
abbrev pub OpensAtEither : ℕ → Bytes → Type 0
OpensAtEither ids image = (cells : List Cell) × (Opened 6 image (OpensTo cells) ⊎ Opened 14 image (OpensTo cells)) × (length cells ≡ ids + 1)

-- whatever a power loss leaves of the disk, its store opens at six slots or at fourteen
abbrev pub AlwaysOpensAtEither : {D : Type 0} → (D → Area → List ℕ → Type 0) → ℕ → D → Type 0
AlwaysOpensAtEither may_leave ids disk = EachImage may_leave disk (OpensAtEither ids)

-- ---- a migration

-- What a power loss leaves at each moment of a migration of what the disk read. Of a store of six slots it is what it may have
-- left before, or opens to the same cells at six slots, or to them with eight null slots more in each at fourteen. Of a store of
-- fourteen it is what it may have left before, or opens to the same cells.
pub record MigratesMeanwhile {D : Type 0} (content : D → Area → Option (List ℕ)) (may_leave : D → Area → List ℕ → Type 0) (moment : D → ℕ) (left_since : D → ℕ → Bytes → Type 0) (before now : D) : Type 0 where
  pub narrow : (image : Bytes) (cells : List Cell) → Reads content before image → Opened 6 image (OpensTo cells)
      → LeavesOnlyImages moment left_since before now (λ other. IsImage may_leave before other ⊎ OpensNarrowOrWide cells other)
  pub wide : OpensMeanwhile content may_leave moment left_since 14 before now
  -- and so it opens to the objects that the root reached, with null slots at fourteen
  pub objects : (image : Bytes) (cells : List Cell) → Reads content before image → Opened 6 image (OpensTo cells)
      → LeavesOnlyImages moment left_since before now (λ other. IsImage may_leave before other ⊎ (OpensToObjects 6 0 (graph_of cells) other ⊎ OpensToObjects 14 8 (graph_of cells) other))

-- a store that the disk held, of so many pages, was migrated or opened, and the command ended with this status
pub record Migrated {D : Type 0} (content : D → Area → Option (List ℕ)) (may_leave : D → Area → List ℕ → Type 0) (moment : D → ℕ) (left_since : D → ℕ → Bytes → Type 0)
    (disk : D) (before after : Outside) (status : ℕ) (ended : Ended D) : Type 0 where
  pub pages : ℕ
  -- it opened at six slots or at fourteen, and whatever a power loss leaves now opens at fourteen
  pub migrated : (image : Bytes) → Reads content disk image → IsMigrated may_leave (disk_in ended) pages image
  pub moments : MigratesMeanwhile content may_leave moment left_since disk (disk_in ended)
  pub shut : IsSome (shut_in ended)
  pub statuses : (status ≡ 0) ⊎ (status ≡ 5)
  pub done : status ≡ 0 → Appends before.written after.written (pages_line pages)
  pub write : status ≡ 5 → Rose before.write_faults after.write_faults × AppendsFront before.written after.written (pages_line pages)

-- the disk holds no store that can be migrated, or the migration was cut off, and the command ended with this status
pub record Unmigrated {D : Type 0} (content : D → Area → Option (List ℕ)) (may_leave : D → Area → List ℕ → Type 0) (moment : D → ℕ) (left_since : D → ℕ → Bytes → Type 0)
    (disk : D) (before after : Outside) (status : ℕ) (ended : Ended D) : Type 0 where
  pub refusal : OpenRefusal
  -- it is that of an opening at fourteen slots, or of one at six where the log is of version 1
  pub refused : (image : Bytes) → Reads content disk image → RefusesBoth image refusal
  -- so it is for the version only where that is neither 1 nor 2
  pub version : (image : Bytes) (byte : ℕ) → Reads content disk image → refusal ≡ UnknownVersion byte → (byte ≢ 1) × (byte ≢ 2)
  pub told : status ≡ status_of_refusal refusal
  pub printed : Ends before after [] (open_refusal_line refusal)
  pub shut : IsSome (shut_in ended)
  -- the count of the disk's faults rose at the status 6, and is as before at each other one
  pub failed : status ≡ 6 → Rose before.disk_faults after.disk_faults
  pub kept : (status ≡ 6 → ⊥) → after.disk_faults ≡ before.disk_faults
  -- nothing was written, unless the refusal tells nothing of the store
  pub unwritten : IsLate refusal ⊎ IsLookedAt content may_leave moment left_since disk (disk_in ended)
  -- nor was it where what the disk reads opens at neither number of slots
  pub only_looks : (image : Bytes) → Reads content disk image → DoesNotOpen 6 image → DoesNotOpen 14 image → IsLookedAt content may_leave moment left_since disk (disk_in ended)
  pub moments : MigratesMeanwhile content may_leave moment left_since disk (disk_in ended)
