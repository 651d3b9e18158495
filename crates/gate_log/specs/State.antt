-- What contracts see of a log.
use Rattle.std.specs.Prelude.{ℕ, ◌+◌, ◌-◌, max, List, [], ◌∷◌, ◌++◌, length, ⊤}
use Rattle.disk_model.specs.declared.area.Area.{Area}
use Rattle.disk_model.specs.declared.area.Area.TheVariants.{LogA, LogB}
use Rattle.gate_log.specs.declared.stage.Stage.{Stage}
use Rattle.gate_log.specs.declared.stage.Stage.TheVariants.{Reading, Standing, Failed}
use Rattle.disk_model.specs.Changes.{written}
use Rattle.gate_log.specs.Batches.{batch_bytes, most_bytes}

-- a log as contracts see it: where it stands, and what of it is on the disk
pub record LogState : Type 0 where
  -- the log area that it is in
  pub area : Area
  pub stage : Stage
  -- the offset of the closed commit byte, or, while the log is read, of the next commit byte
  pub durable : ℕ
  -- what was appended since the last force
  pub tail : List ℕ
  -- so many bytes can still be appended without memory
  pub room : ℕ

-- the bytes in use: those before the closed commit byte, the batch of the tail with its length, and two commit bytes
abbrev pub used : LogState → ℕ
used s = s.durable + 6 + length s.tail

-- no content of the log's area has more bytes than this
abbrev pub reach : LogState → ℕ
reach s = max most_bytes (s.durable + 1)

-- nor has one while the tail is forced
abbrev pub reach_forcing : LogState → ℕ
reach_forcing s = max most_bytes (used s)

-- one of the two log areas
abbrev pub IsLogArea : Area → Type 0
IsLogArea LogA = ⊤
IsLogArea LogB = ⊤
IsLogArea _ = ⊥

-- the other one
abbrev pub other_log : Area → Area
other_log LogA = LogB
other_log LogB = LogA
other_log area = area

-- these bytes were appended
abbrev pub appended : LogState → List ℕ → LogState
appended s bytes = record s { tail = s.tail ++ bytes; room = s.room - length bytes }

-- how many bytes the batch of a tail takes; an empty one makes none
abbrev pub batch_length : List ℕ → ℕ
batch_length [] = 0
batch_length (byte ∷ more) = 5 + length (byte ∷ more)

-- the tail was forced
abbrev pub forced : LogState → LogState
forced s = record s { durable = s.durable + batch_length s.tail; tail = [] }

-- a log area after a tail was forced at this offset: its batch stands there, and a closed commit byte of zero
-- after it; an empty tail changes nothing
abbrev pub forced_area : ℕ → List ℕ → List ℕ → List ℕ
forced_area at [] area = area
forced_area at (byte ∷ more) area = written at (batch_bytes (byte ∷ more) ++ 0 ∷ []) area

-- the first byte of the super area, where it names this log area
abbrev pub naming_byte : Area → ℕ
naming_byte LogA = 0
naming_byte _ = 1

-- the disk failed a call
abbrev pub failed : LogState → LogState
failed s = record s { stage = Failed }

-- the other area was made anew with this one batch, and is named
abbrev pub turned : LogState → List ℕ → LogState
turned s first = record s { area = other_log s.area; durable = 5 + length first; tail = [] }

-- the other area was made anew with these two batches, and is named
abbrev pub turned_with : LogState → List ℕ → List ℕ → LogState
turned_with s first second = record s { area = other_log s.area; durable = 10 + length first + length second; tail = [] }

-- as it stands on a fresh store
abbrev pub fresh_log : LogState
fresh_log = record { area = LogA; stage = Standing; durable = 9; tail = []; room = 0 }

-- before the first commit byte of the area
abbrev pub log_at : Area → LogState
log_at area = record { area = area; stage = Reading; durable = 0; tail = []; room = 0 }
