-- Records and batches of a log that are tested one after another.
use Rattle.std.specs.Prelude.{◌≡◌, ℕ, ◌+◌, ◌*◌, ◌<◌, ◌≤◌, List, ◌∷◌, ◌++◌, length, drop, slice_index}
use Rattle.log_record.specs.declared.record.Record.{Record}
use Rattle.log_record.specs.Spelling.{BeginsWith}
use Rattle.gate_log.specs.Batches.{Begins}
use Rattle.restart_laws.specs.Unended.{Unended}
use Rattle.log_replay.specs.Replays.{Replaying}
use Rattle.opened_images.specs.LogRecords.{body_of, bodies_of, first_records, log_bytes, unended_behind, unended_by, unended_by_all, HaveSpellings, FitsLog, AllFitLog, HasNoNext, AreBatches, IsRecordLog}

-- This replay tests records of a log, in a store of so many pages, where these transactions haven't ended. It awaits an image of
-- each page, and so looks at no cell.
pub record IsTesting (pages : ℕ) (us : List (ℕ × Unended)) (v : Replaying) : Type 0 where
  pub sized : length v.cells ≡ 8 * pages + 1
  pub long : length v.skips ≡ pages
  pub awaits : (page : ℕ) → page < pages → 1 ≤ slice_index v.skips page
  pub unended : v.unended ≡ us

-- The bytes begin with a record that fits, which has so many of them, and the replay tests on after it.
pub record FitsFirst (slots pages : ℕ) (us : List (ℕ × Unended)) (bytes : List ℕ) (len : ℕ) (w : Replaying) : Type 0 where
  pub r : Record slots
  pub begins : BeginsWith bytes r len
  pub fits : FitsLog pages us r
  pub testing : IsTesting pages (unended_by us r) w

-- The first bytes of the body, so many, are records that fit, and the replay tests on after them.
pub record FitsFront (slots pages : ℕ) (us : List (ℕ × Unended)) (body : List ℕ) (at : ℕ) (w : Replaying) : Type 0 where
  pub rs : List (Record slots)
  pub spelled : HaveSpellings rs
  pub fit : AllFitLog pages us rs
  pub so_far : at ≡ length (body_of rs)
  pub split : body ≡ body_of rs ++ drop at body
  pub testing : IsTesting pages (unended_by_all us rs) w

-- The body is records that fit, and the replay tests on after them.
pub record FitsBody (slots pages : ℕ) (us : List (ℕ × Unended)) (body : List ℕ) (w : Replaying) : Type 0 where
  pub rs : List (Record slots)
  pub spelled : HaveSpellings rs
  pub fit : AllFitLog pages us rs
  pub split : body ≡ body_of rs
  pub testing : IsTesting pages (unended_by_all us rs) w

-- In front of this offset of the body stand records that fit, and there begins none that does.
pub record StopsBody (slots pages : ℕ) (us : List (ℕ × Unended)) (body : List ℕ) (at : ℕ) : Type 0 where
  pub rs : List (Record slots)
  pub spelled : HaveSpellings rs
  pub fit : AllFitLog pages us rs
  pub so_far : at ≡ length (body_of rs)
  pub left : List ℕ
  pub some : 1 ≤ length left
  pub none : HasNoNext slots pages (unended_by_all us rs) left
  pub split : body ≡ body_of rs ++ left

-- The area begins with batches of a store of so many pages, up to this offset, and the replay tests on after them.
pub record HasTested (slots pages at : ℕ) (v : Replaying) (area : List ℕ) : Type 0 where
  pub batches : List (List (Record slots))
  pub are : AreBatches pages batches
  pub begins : Begins (body_of (first_records slots pages) ∷ bodies_of batches) area
  pub so_far : at ≡ length (log_bytes pages batches)
  pub testing : IsTesting pages (unended_behind batches) v

-- The area is the log of a store of so many pages, which has so many bytes with its closed commit byte.
pub record IsTestedLog (slots pages len : ℕ) (area : List ℕ) : Type 0 where
  pub batches : List (List (Record slots))
  pub log : IsRecordLog pages batches area
  pub all : len ≡ length (log_bytes pages batches) + 1
