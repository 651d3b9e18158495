-- One part of a stream more, or the records of a batch.
use Rattle.std.specs.Prelude.{◌≡◌, ℕ, ◌+◌, ◌*◌, ◌<◌, ◌^◌, List, [], ◌∷◌, ◌++◌, length, Option, Some}
use Rattle.cell_model.specs.Cells.{Cell}
use Rattle.log_record.specs.declared.record.Record.{Record}
use Rattle.log_replay.specs.Replays.{Replaying}
use Rattle.ship_stream.specs.declared.part.Part.{Part}
use Rattle.ship_stream.specs.Reading.{Reading, IsReading}
use Rattle.ship_stream.specs.Feeding.{Adds}
use Rattle.ship_stream.specs.Runs.{RecordRun, AreRecords}
use Rattle.standby.specs.Taking.{TakesNext}
use Rattle.log_checker.specs.Tallies.{Tallying, Tells}
use Rattle.log_checker.specs.Checking.{Checked, HasBoth}

-- this part may come next
pub record Awaits {slots : ℕ} (c : Checked slots) (part : Part slots) : Type 0 where
  pub r : Reading slots
  pub next : Reading slots
  pub has : HasBoth r c
  pub adds : Adds part r next
  pub reading : IsReading next

-- The tally is beside this replay: both have a cell for each id; and a number of 32 bits counts the commits of as many bytes more.
pub record IsBeside (v : Replaying) (t : Tallying) (records : RecordRun) : Type 0 where
  pub sized : length t.cells ≡ 8 * length v.skips + 1
  pub room : t.commits + length records.bytes < 2 ^ 32

-- whatever records a tally told of, it tells of those of the batch after them
abbrev pub TellsMore : {slots : ℕ} → List (Record slots) → Tallying → Tallying → Type 0
TellsMore {slots} rs t u = (base : List Cell) (before : List (Record slots)) → Tells base before t → Tells base (before ++ rs) u

-- The next of these records fits the replay, was done to it, and was told to the tally, and those are left.
pub record TakesBoth (slots : ℕ) (v w : Replaying) (t u : Tallying) (old new : RecordRun) : Type 0 where
  pub taken : TakesNext slots v w old new
  pub told : (base : List Cell) (before : List (Record slots)) → Tells base before t → Tells base (before ++ taken.r ∷ []) u
  pub beside : IsBeside w u new
