-- The first batch of a log.
use Rattle.std.specs.Prelude.{◌≡◌, ◌≢◌, ℕ, ◌≤◌, List, ◌∷◌, ◌++◌, length}
use Rattle.log_record.specs.declared.record.Record.TheVariants.{Turn}
use Rattle.log_record.specs.Spelling.{known_version, HasSpelling, BeginsWith}
use Rattle.opened_images.specs.LogRecords.{body_of, first_records}

-- the body is a `Turn` of a version that isn't known
pub record IsUnknownTurn (slots number : ℕ) (body : List ℕ) : Type 0 where
  pub pages : List ℕ
  pub two : length pages ≡ 2
  pub unknown : number ≢ known_version slots
  pub are : body ≡ 14 ∷ number ∷ pages

-- the body is the one `Turn` of a store of so many pages
pub record IsFirstBody (slots pages : ℕ) (body : List ℕ) : Type 0 where
  pub rules : HasSpelling {slots = slots} (Turn (known_version slots) pages)
  pub are : body ≡ body_of (first_records slots pages)

-- The body of the first batch is damaged at this place of the area: it begins with no `Turn`, or more stands after it.
pub data IsDamagedFirst (slots place : ℕ) (body : List ℕ) : Type 0 where
  no_turn : ((number : ℕ) → IsUnknownTurn slots number body → ⊥) → ((pages len : ℕ) → BeginsWith {slots = slots} body (Turn (known_version slots) pages) len → ⊥)
      → place ≡ 5 → IsDamagedFirst slots place body
  more : (pages : ℕ) (left : List ℕ) → HasSpelling {slots = slots} (Turn (known_version slots) pages) → 1 ≤ length left
      → body ≡ body_of (first_records slots pages) ++ left → place ≡ 9 → IsDamagedFirst slots place body
