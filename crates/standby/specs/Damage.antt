-- Where the bytes of a stream show a fault to a standby, which does the records of each whole batch to the base.
use Rattle.std.specs.Prelude.{◌≡◌, ◌⊎◌, ℕ, ◌+◌, ◌≤◌, List, [], ◌∷◌, ◌++◌, length}
use Rattle.cell_page.specs.declared.cell.Cell.{Cell}
use Rattle.log_record.specs.declared.record.Record.{Record}
use Rattle.opened_images.specs.LogRecords.{all_of}
use Rattle.ship_stream.specs.Reading.{Reading, InLog, bytes_of, IsReading}
use Rattle.ship_stream.specs.Faults.{Breaks}
use Rattle.standby.specs.Following.{over_base, base_after, AllFit, StopsFitting, FitsBase}

-- After what came whole, of which each record fits, these bytes are no part of a stream, and this is the offset of the fault.
pub record IsBrokenAt (slots : ℕ) (bytes : List ℕ) (at : ℕ) : Type 0 where
  pub r : Reading slots
  pub rest : List ℕ
  pub reading : IsReading r
  pub split : bytes ≡ bytes_of r ++ rest
  pub fit : FitsBase r
  pub breaks : Breaks r rest at

-- After batches whose records fit came a whole one with its commit byte after it, and this is the offset of the first record of
-- it that doesn't fit.
pub record IsUnfitAt (slots : ℕ) (bytes : List ℕ) (at : ℕ) : Type 0 where
  pub pages : List (List (Cell slots))
  pub front : List (List (Record slots))
  pub rs : List (Record slots)
  pub rest : List ℕ
  pub reading : IsReading (InLog pages (front ++ rs ∷ []))
  pub split : bytes ≡ bytes_of (InLog pages (front ++ rs ∷ [])) ++ rest
  pub behind : 1 ≤ length rest
  pub fit : AllFit (over_base pages) (all_of front)
  pub stops : StopsFitting (base_after pages front) rs (length (bytes_of (InLog pages front)) + 5) at

-- The bytes show a fault at this offset, the first one in the order of the stream.
abbrev pub IsDamagedAt : (slots : ℕ) → List ℕ → ℕ → Type 0
IsDamagedAt slots bytes at = IsBrokenAt slots bytes at ⊎ IsUnfitAt slots bytes at
