-- The test of a log, step by step.
use Rattle.std.specs.Prelude.{◌≡◌, ◌⊎◌, ℕ, ◌+◌, ◌≤◌, List, [], ◌∷◌, ◌++◌, length, drop}
use Rattle.log_record.specs.declared.record.Record.{Record}
use Rattle.log_record.specs.declared.record.Record.TheVariants.{Turn}
use Rattle.log_record.specs.Spelling.{known_version, HasSpelling, BeginsWith}
use Rattle.gate_log.specs.CommitBytes.{IsDamaged}
use Rattle.opened_images.specs.LogRecords.{body_of, HaveSpellings, FitsLog, AllFitLog, unended_by, unended_by_all, unended_behind, first_records, AreBatches, log_bytes, next_record_at, HasNoNext, StopsBehind}
use Rattle.log_printing.specs.Fitting.{Fitting}

-- ---- the first batch

-- the body is the one `Turn` of a store of so many pages
pub record IsFirstBody (slots pages : ℕ) (body : List ℕ) : Type 0 where
  pub rules : HasSpelling {slots = slots} (Turn (known_version slots) pages)
  pub are : body ≡ body_of (first_records slots pages)

-- the body of the first batch begins with another record, or more stands after the `Turn`
pub data IsDamagedFirst (slots pages : ℕ) (body : List ℕ) (place : ℕ) : Type 0 where
  other : ((len : ℕ) → BeginsWith {slots = slots} body (Turn (known_version slots) pages) len → ⊥) → place ≡ 5 → IsDamagedFirst slots pages body place
  more : (left : List ℕ) → HasSpelling {slots = slots} (Turn (known_version slots) pages) → 1 ≤ length left → body ≡ body_of (first_records slots pages) ++ left → place ≡ 9
      → IsDamagedFirst slots pages body place

-- ---- a body

-- the record that the bytes begin with, which has so many, was taken
pub record TakesFirst (slots : ℕ) (bytes : List ℕ) (len : ℕ) (old new : Fitting) : Type 0 where
  pub r : Record slots
  pub begins : BeginsWith bytes r len
  pub fits : FitsLog old.pages old.unended r
  pub are : new ≡ record { pages = old.pages; unended = unended_by old.unended r }

-- the records of the first bytes of the body, so many, were taken
pub record TakesFront (slots : ℕ) (body : List ℕ) (count : ℕ) (old new : Fitting) : Type 0 where
  pub rs : List (Record slots)
  pub spelled : HaveSpellings rs
  pub fit : AllFitLog old.pages old.unended rs
  pub are : new ≡ record { pages = old.pages; unended = unended_by_all old.unended rs }
  pub so_far : count ≡ length (body_of rs)
  pub split : body ≡ body_of rs ++ drop count body

-- all its records were taken
pub record TakesBody (slots : ℕ) (body : List ℕ) (old new : Fitting) : Type 0 where
  pub rs : List (Record slots)
  pub spelled : HaveSpellings rs
  pub fit : AllFitLog old.pages old.unended rs
  pub are : new ≡ record { pages = old.pages; unended = unended_by_all old.unended rs }
  pub split : body ≡ body_of rs

-- the records in front of this offset fit, and there begins none that does
pub record StopsInBody (slots : ℕ) (body : List ℕ) (offset : ℕ) (old : Fitting) : Type 0 where
  pub rs : List (Record slots)
  pub spelled : HaveSpellings rs
  pub fit : AllFitLog old.pages old.unended rs
  pub so_far : offset ≡ length (body_of rs)
  pub left : List ℕ
  pub some : 1 ≤ length left
  pub none : HasNoNext slots old.pages (unended_by_all old.unended rs) left
  pub split : body ≡ body_of rs ++ left

-- ---- batches

-- The area begins with the first batch of a store of so many pages, and with batches after it whose records fit; the next commit
-- byte stands at this place.
pub record HasRead (slots pages : ℕ) (area : List ℕ) (at : ℕ) (fitting : Fitting) : Type 0 where
  pub batches : List (List (Record slots))
  pub read : AreBatches pages batches
  pub place : at ≡ length (log_bytes pages batches)
  pub are : area ≡ log_bytes pages batches ++ drop at area
  pub fitting_is : fitting ≡ record { pages = pages; unended = unended_behind batches }

-- After batches whose records fit the area is damaged at this place.
pub data StopsLog (slots pages : ℕ) (area : List ℕ) (place : ℕ) : Type 0 where
  no_batch : (batches : List (List (Record slots))) (rest : List ℕ) → AreBatches pages batches → area ≡ log_bytes pages batches ++ rest
      → IsDamaged (length (log_bytes pages batches)) place area → StopsLog slots pages area place
  no_record : (batches : List (List (Record slots))) (rs : List (Record slots)) → StopsBehind pages batches rs area → place ≡ next_record_at pages batches rs
      → StopsLog slots pages area place
