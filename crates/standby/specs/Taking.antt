-- One part of a stream more.
use Rattle.std.specs.Prelude.{◌≡◌, ℕ, ◌+◌, ◌<◌, List, [], ◌∷◌, ◌++◌, length}
use Rattle.log_record.specs.declared.record.Record.{Record}
use Rattle.log_record.specs.Spelling.{record_bytes}
use Rattle.log_replay.specs.Replays.{Replaying, FitsReplay, after_taking}
use Rattle.opened_images.specs.LogRecords.{all_of}
use Rattle.ship_stream.specs.declared.part.Part.{Part}
use Rattle.ship_stream.specs.Reading.{Reading, InLog, bytes_of, IsReading}
use Rattle.ship_stream.specs.Feeding.{Adds}
use Rattle.ship_stream.specs.Runs.{RecordRun, AreRecords}
use Rattle.standby.specs.Following.{over_base, base_after, AllFit, StopsFitting, Gathering, Has}

-- this part may come next
pub record Awaits {slots : ℕ} (g : Gathering slots) (part : Part slots) : Type 0 where
  pub r : Reading slots
  pub next : Reading slots
  pub has : Has r g
  pub adds : Adds part r next
  pub reading : IsReading next

-- With the next batch that is what came whole, and the first record of that batch that doesn't fit stands at this offset.
abbrev pub StopsIn : {slots : ℕ} → Reading slots → Reading slots → ℕ → Type 0
StopsIn {slots} (InLog pages batches) next at =
    (rs : List (Record slots)) × (next ≡ InLog pages (batches ++ rs ∷ [])) × AllFit (over_base pages) (all_of batches)
    × StopsFitting (base_after pages batches) rs (length (bytes_of (InLog pages batches)) + 5) at
StopsIn _ next at = ⊥

-- The next of these records fits the replay and was done to it, and those are left.
pub record TakesNext (slots : ℕ) (v w : Replaying) (old new : RecordRun) : Type 0 where
  pub r : Record slots
  pub next : (rs : List (Record slots)) → AreRecords rs old → (later : List (Record slots)) × (rs ≡ r ∷ later) × AreRecords later new
  pub place : new.at ≡ old.at + length (record_bytes r)
  pub fewer : length new.bytes < length old.bytes
  pub fits : FitsReplay v r
  pub took : w ≡ after_taking r v

-- The next of these records stands at this offset, and doesn't fit the replay.
pub record StopsNext (slots : ℕ) (v : Replaying) (old : RecordRun) (at : ℕ) : Type 0 where
  pub r : Record slots
  pub next : (rs : List (Record slots)) → AreRecords rs old → (later : List (Record slots)) × (rs ≡ r ∷ later) × (at ≡ old.at)
  pub unfit : FitsReplay v r → ⊥

-- there is no record
abbrev pub HasNone : (slots : ℕ) → RecordRun → Type 0
HasNone slots old = (rs : List (Record slots)) → AreRecords rs old → rs ≡ []
