-- Where a log area is damaged that should be the log of a store of so many pages.
use Rattle.std.specs.Prelude.{◌≡◌, ◌⊎◌, ℕ, List}
use Rattle.log_record.specs.declared.record.Record.TheVariants.{Turn}
use Rattle.log_record.specs.Spelling.{known_version, BeginsWith}
use Rattle.opened_images.specs.LogRecords.{BeginsWithBody, IsDamagedLog}

-- The area's first body doesn't begin with the `Turn` of the known version and this number of pages.
pub record HasOtherFirst (slots pages : ℕ) (area : List ℕ) : Type 0 where
  pub body : List ℕ
  pub begins : BeginsWithBody body area
  pub other : (len : ℕ) → BeginsWith {slots = slots} body (Turn (known_version slots) pages) len → ⊥

-- The area is damaged at this place: at its first record, where that is another one, and else by the log's format.
abbrev pub IsDamagedFor : (slots pages : ℕ) → List ℕ → ℕ → Type 0
IsDamagedFor slots pages area place = (HasOtherFirst slots pages area × (place ≡ 5)) ⊎ ((HasOtherFirst slots pages area → ⊥) × IsDamagedLog slots area place)
