-- How the command `standby` ends.
use Rattle.std.specs.Prelude.{◌≡◌, ◌⊎◌, ℕ, List, [], IsSome, codes}
use Rattle.std.specs.Io.KnownBytes.{Consumes, Appends}
use Rattle.disk_model.specs.declared.area.Area.{Area}
use Rattle.disk_model.specs.Areas.{Bytes}
use Rattle.disk_model.specs.Causes.{Rose}
use Rattle.disk_model.specs.Time.{LeavesOnlyImages}
use Rattle.cell_model.specs.Cells.{Cell}
use Rattle.store_opening.specs.declared.open_refusal.OpenRefusal.TheVariants as refusal
use Rattle.standby.specs.declared.promoted.Promoted.{Promoted}
use Rattle.standby.specs.Damage.{IsDamagedAt}
use Rattle.standby.specs.Promoted.{PromotesTo, IsUnsoundAt, LacksBase, IsPromoted, IsPromoting}
use Rattle.script_lines.specs.Numbers.{object_slots}
use Rattle.script_lines.specs.Output.{AppendsFront, open_refusal_line}
use Rattle.standby_feeding.specs.declared.refusal.StreamRefusal.{StreamRefusal}
use Rattle.standby_feeding.specs.declared.refusal.StreamRefusal.TheVariants as stream
use Rattle.standby_feeding.specs.Line.{promoted_line, stream_line}
use Rattle.standby_feeding.specs.StoodBy.{HasStream}
use Rattle.standby_feeding.specs.Streams.{IsReadThrough}
use Rattle.brahma_shell.specs.declared.ended.Ended.{Ended}
use Rattle.brahma_shell.specs.Ended.{shut_in, disk_in}
use Rattle.brahma_shell.specs.Top.{Outside, Ends}

-- the disk was made anew as the store of the stream that the source gave, or not, with this status
pub record StoodBy {D : Type 0} (may_leave : D → Area → List ℕ → Type 0) (moment : D → ℕ) (left_since : D → ℕ → Bytes → Type 0) (disk : D) (before after : Outside) (status : ℕ) (ended : Ended D) : Type 0 where
  pub shut : IsSome (shut_in ended)
  pub statuses : (status ≡ 0) ⊎ ((status ≡ 3) ⊎ ((status ≡ 4) ⊎ ((status ≡ 5) ⊎ ((status ≡ 6) ⊎ ((status ≡ 7) ⊎ (status ≡ 8))))))
  -- these bytes were read
  pub bytes : List ℕ
  pub consumed : Consumes before.left after.left bytes
  -- at each moment a power loss leaves what opens as before, or no store, or the store that they make
  pub moments : LeavesOnlyImages moment left_since disk (disk_in ended) (IsPromoting may_leave object_slots disk bytes)
  -- they are the stream up to its closed commit byte, or all, and each image opens to their store, whose line was written
  pub done : status ≡ 0 → (p : Promoted) × IsReadThrough object_slots after.left bytes × IsPromoted may_leave object_slots bytes (disk_in ended) p
      × Appends before.written after.written (promoted_line p)
  pub write : status ≡ 5 → Rose before.write_faults after.write_faults
      × ((p : Promoted) × IsReadThrough object_slots after.left bytes × IsPromoted may_leave object_slots bytes (disk_in ended) p × AppendsFront before.written after.written (promoted_line p))
  -- they show a fault at this offset, or they are all and end there inside of the pages
  pub refused : status ≡ 3 → (at : ℕ) × Ends before after [] (stream_line at) × (IsDamagedAt object_slots bytes at ⊎ (IsReadThrough object_slots after.left bytes × LacksBase object_slots bytes at))
  pub read : status ≡ 4 → Rose before.read_faults after.read_faults × Ends before after [] (codes "refused: read\n")
  pub failed : status ≡ 6 → Rose before.disk_faults after.disk_faults × Ends before after [] (codes "refused: disk\n") × IsReadThrough object_slots after.left bytes
      × ((batches : ℕ) × (cells : List Cell) × PromotesTo object_slots bytes batches cells)
  pub unsound : status ≡ 7 → (id : ℕ) × (rule : ℕ) × Ends before after [] (open_refusal_line (refusal.Unsound id rule)) × IsReadThrough object_slots after.left bytes × IsUnsoundAt object_slots bytes id rule
  pub memory : status ≡ 8 → Ends before after [] (codes "refused: memory\n")
  -- where the source tells a stream whose store can be made, that isn't refused
  pub taken : HasStream object_slots before.left → (status ≡ 3) ⊎ (status ≡ 7) → ⊥
  -- the disk was asked for nothing where it wasn't made anew
  pub untouched : (status ≡ 3) ⊎ ((status ≡ 4) ⊎ ((status ≡ 7) ⊎ (status ≡ 8))) → disk_in ended ≡ disk

-- ---- what is told of a refusal

-- the status where no store is made of a stream
abbrev pub status_of_stream : StreamRefusal → ℕ
status_of_stream stream.Read = 4
status_of_stream (stream.Damaged at) = 3
status_of_stream (stream.NoBase len) = 3
status_of_stream (stream.Unsound id rule) = 7
status_of_stream stream.Disk = 6
status_of_stream stream.Memory = 8

-- the last line then
abbrev pub stream_refusal_line : StreamRefusal → List ℕ
stream_refusal_line stream.Read = codes "refused: read\n"
stream_refusal_line (stream.Damaged at) = stream_line at
stream_refusal_line (stream.NoBase len) = stream_line len
stream_refusal_line (stream.Unsound id rule) = open_refusal_line (refusal.Unsound id rule)
stream_refusal_line stream.Disk = open_refusal_line refusal.Disk
stream_refusal_line stream.Memory = open_refusal_line refusal.Memory
