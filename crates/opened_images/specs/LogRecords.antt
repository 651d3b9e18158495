-- The records of a log area, and where such an area is damaged.
use Rattle.std.specs.Prelude.{◌≡◌, ◌≢◌, ℕ, ◌+◌, ◌*◌, ◌<◌, ◌≤◌, List, [], ◌∷◌, ◌++◌, length, map, ⊤}
use Rattle.std.specs.List.{flat_map}
use Rattle.log_record.specs.declared.record.Record.{Record}
use Rattle.log_record.specs.declared.record.Record.TheVariants.{OfCells, Image, Turn}
use Rattle.log_record.specs.Records.{record_of}
use Rattle.log_record.specs.Spelling.{record_bytes, known_version, HasSpelling, IsTypedRecord, BeginsWith}
use Rattle.gate_log.specs.Batches.{IsBody, AreBodies, batch_bytes, batches_bytes, IsLog, most_bytes}
use Rattle.gate_log.specs.CommitBytes.{IsDamaged}
use Rattle.restart_laws.specs.Unended.{Unended, unended_after, FitsUnended}
use Rattle.log_replay.specs.Replays.{IsWithin}

-- ---- bodies

-- the bytes of these records, one after another
abbrev pub body_of : {slots : ℕ} → List (Record slots) → List ℕ
body_of rs = flat_map record_bytes rs

-- those of each of these lists
abbrev pub bodies_of : {slots : ℕ} → List (List (Record slots)) → List (List ℕ)
bodies_of batches = map body_of batches

-- each of these records has a spelling
abbrev pub HaveSpellings : {slots : ℕ} → List (Record slots) → Type 0
HaveSpellings [] = ⊤
HaveSpellings (r ∷ rs) = HasSpelling r × IsTypedRecord r × HaveSpellings rs

-- ---- which record fits

-- the record fits after the log's first one, in a store of so many pages, where these transactions haven't ended
abbrev pub FitsLog : {slots : ℕ} → ℕ → List (ℕ × Unended) → Record slots → Type 0
FitsLog pages us (OfCells r) = IsWithin (8 * pages) r × FitsUnended us (record_of r)
FitsLog pages us (Image page cells) = page < pages
FitsLog pages us (Turn version count) = ⊥

-- the transactions that haven't ended, after a record
abbrev pub unended_by : {slots : ℕ} → List (ℕ × Unended) → Record slots → List (ℕ × Unended)
unended_by us (OfCells r) = unended_after us (record_of r)
unended_by us _ = us

-- after all of these
abbrev pub unended_by_all : {slots : ℕ} → List (ℕ × Unended) → List (Record slots) → List (ℕ × Unended)
unended_by_all us [] = us
unended_by_all us (r ∷ rs) = unended_by_all (unended_by us r) rs

-- so do all of these, one after another
abbrev pub AllFitLog : {slots : ℕ} → ℕ → List (ℕ × Unended) → List (Record slots) → Type 0
AllFitLog pages us [] = ⊤
AllFitLog pages us (r ∷ rs) = FitsLog pages us r × AllFitLog pages (unended_by us r) rs

-- ---- a log

-- the records of these batches, in order
abbrev pub all_of : {slots : ℕ} → List (List (Record slots)) → List (Record slots)
all_of batches = flat_map (λ rs. rs) batches

-- the transactions that haven't ended after them
abbrev pub unended_behind : {slots : ℕ} → List (List (Record slots)) → List (ℕ × Unended)
unended_behind batches = unended_by_all [] (all_of batches)

-- the records of a log's first batch
abbrev pub first_records : (slots pages : ℕ) → List (Record slots)
first_records slots pages = Turn (known_version slots) pages ∷ []

-- These batches follow the log's first one, which tells that the store has so many pages, and their records fit.
pub record AreBatches {slots : ℕ} (pages : ℕ) (batches : List (List (Record slots))) : Type 0 where
  pub some : 1 ≤ pages
  pub few : pages ≤ 1024
  pub bodies : AreBodies (bodies_of batches)
  pub spelled : HaveSpellings (all_of batches)
  pub fit : AllFitLog pages [] (all_of batches)

-- the bytes of the batches, the first one too
abbrev pub log_bytes : {slots : ℕ} → ℕ → List (List (Record slots)) → List ℕ
log_bytes {slots} pages batches = batches_bytes (body_of (first_records slots pages) ∷ bodies_of batches)

-- where the next record stands, after these batches and these records of the batch after them
abbrev pub next_record_at : {slots : ℕ} → ℕ → List (List (Record slots)) → List (Record slots) → ℕ
next_record_at pages batches rs = length (log_bytes pages batches) + 5 + length (body_of rs)

-- The area is the log of a store of so many pages, with these batches of records after its first one.
pub record IsRecordLog {slots : ℕ} (pages : ℕ) (batches : List (List (Record slots))) (area : List ℕ) : Type 0 where
  pub batches_are : AreBatches pages batches
  pub log : IsLog most_bytes (body_of (first_records slots pages) ∷ bodies_of batches) area

-- ---- a damaged log

-- No record that fits begins what is left of a body.
abbrev pub HasNoNext : (slots pages : ℕ) → List (ℕ × Unended) → List ℕ → Type 0
HasNoNext slots pages us left = (r : Record slots) (len : ℕ) → BeginsWith left r len → FitsLog pages us r → ⊥

-- The area begins with a batch of this body, and is short enough.
pub record BeginsWithBody (body area : List ℕ) : Type 0 where
  pub whole : IsBody body
  pub rest : List ℕ
  pub are : area ≡ batch_bytes body ++ rest
  pub short : length area ≤ most_bytes

-- The first body is a `Turn` of a version that isn't known.
pub record IsOfVersion (slots version : ℕ) (area : List ℕ) : Type 0 where
  pub pages : List ℕ
  pub two : length pages ≡ 2
  pub first : BeginsWithBody (14 ∷ version ∷ pages) area
  pub unknown : version ≢ known_version slots

-- After these batches stands one whose body begins with these records, which fit, and no record that fits
-- begins what is left of it.
pub record StopsBehind {slots : ℕ} (pages : ℕ) (batches : List (List (Record slots))) (rs : List (Record slots)) (area : List ℕ) : Type 0 where
  pub read : AreBatches pages batches
  pub spelled : HaveSpellings rs
  pub fit : AllFitLog pages (unended_behind batches) rs
  pub left : List ℕ
  pub some : 1 ≤ length left
  pub none : HasNoNext slots pages (unended_by_all (unended_behind batches) rs) left
  pub whole : IsBody (body_of rs ++ left)
  pub rest : List ℕ
  pub are : area ≡ log_bytes pages batches ++ (batch_bytes (body_of rs ++ left) ++ rest)
  pub short : length area ≤ most_bytes

-- The area is damaged at this place.
pub data IsDamagedLog (slots : ℕ) (area : List ℕ) (place : ℕ) : Type 0 where
  -- it is too long, has no commit byte or a closed one, or no batch stands after it
  no_first : IsDamaged 0 place area → IsDamagedLog slots area place
  -- the first body begins with no `Turn`, and isn't that of an unknown version
  no_turn : (body : List ℕ) → BeginsWithBody body area → ((version : ℕ) → IsOfVersion slots version area → ⊥)
      → ((pages len : ℕ) → BeginsWith {slots = slots} body (Turn (known_version slots) pages) len → ⊥) → place ≡ 5 → IsDamagedLog slots area place
  -- something follows the `Turn`
  not_alone : (pages : ℕ) (left : List ℕ) → HasSpelling {slots = slots} (Turn (known_version slots) pages) → 1 ≤ length left
      → BeginsWithBody (body_of (first_records slots pages) ++ left) area → place ≡ 9 → IsDamagedLog slots area place
  -- after these batches the commit byte is missing, or the batch after it is cut off
  no_batch : (pages : ℕ) (batches : List (List (Record slots))) (rest : List ℕ) → AreBatches pages batches → area ≡ log_bytes pages batches ++ rest
      → IsDamaged (length (log_bytes pages batches)) place area → IsDamagedLog slots area place
  -- in the batch after these, no record that fits follows these records
  no_record : (pages : ℕ) (batches : List (List (Record slots))) (rs : List (Record slots)) → StopsBehind pages batches rs area
      → place ≡ next_record_at pages batches rs → IsDamagedLog slots area place
