-- The batches of a log, walked one after another.
use Rattle.std.specs.Prelude.{◌≡◌, ℕ, ◌+◌, ◌≤◌, List, [], ◌∷◌, ◌++◌, length, Option, IfSome}
use Rattle.disk_model.specs.declared.area.Area.{Area}
use Rattle.log_record.specs.declared.record.Record.{Record}
use Rattle.gate_log.specs.Batches.{batches_bytes, Begins, IsLog, most_bytes}
use Rattle.gate_log.specs.CommitBytes.{IsDamaged}
use Rattle.gate_log.specs.State.{LogState}
use Rattle.gate_log.specs.OnDisk.{IsRead, IsOn}
use Rattle.log_replay.specs.Replays.{Replaying}
use Rattle.opened_images.specs.LogRecords.{bodies_of, all_of}
use Rattle.page_marks.specs.declared.marks.PageMark.{PageMark}
use Rattle.page_marks.specs.Marks.{AreMarks}
use Rattle.store_opening.specs.Walks.{Takes, StopsInBody}

module _ {D : Type 0} (content : D → Area → Option (List ℕ)) (may_leave : D → Area → List ℕ → Type 0) where
  -- after the batches that were read before, these were read, the replay took their records, and the marks are those of them
  pub record HasWalked (slots : ℕ) (read : List (List ℕ)) (v w : Replaying) (marks : List PageMark) (log : LogState) (disk : D) : Type 0 where
    pub batches : List (List (Record slots))
    pub takes : Takes (all_of batches) v w
    pub marked : AreMarks (all_of batches) marks
    pub is_read : IsRead content may_leave log disk (read ++ bodies_of batches)

  -- and then the log's end was read
  pub record EndsWalk (slots : ℕ) (read : List (List ℕ)) (v w : Replaying) (marks : List PageMark) (log : LogState) (disk : D) : Type 0 where
    pub batches : List (List (Record slots))
    pub takes : Takes (all_of batches) v w
    pub marked : AreMarks (all_of batches) marks
    pub is_on : IsOn may_leave log disk (read ++ bodies_of batches)
    pub whole : IfSome (content disk log.area) (IsLog most_bytes (read ++ bodies_of batches))

-- The walk of this area stops here: after batches that the replay took no commit byte stands, or the batch is cut
-- off, or in that batch no record stands that it can take.
pub data StopsWalk (slots : ℕ) (read : List (List ℕ)) (v : Replaying) (place : ℕ) (area : List ℕ) : Type 0 where
  no_batch : (batches : List (List (Record slots))) (w : Replaying) → Takes (all_of batches) v w → Begins (read ++ bodies_of batches) area
      → IsDamaged (length (batches_bytes (read ++ bodies_of batches))) place area → StopsWalk slots read v place area
  no_record : (batches : List (List (Record slots))) (w : Replaying) → Takes (all_of batches) v w → (body : List ℕ) (offset : ℕ) → StopsInBody slots body offset w
      → Begins ((read ++ bodies_of batches) ++ body ∷ []) area → length area ≤ most_bytes
      → place ≡ length (batches_bytes (read ++ bodies_of batches)) + 5 + offset → StopsWalk slots read v place area
