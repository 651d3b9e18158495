-- A sink in memory.
use Rattle.std.specs.Prelude.{ℕ, List, ◌++◌, Contains}
use Rattle.disk_model.specs.Causes.{raised}

-- what contracts see of it
pub record SinkState : Type 0 where
  -- the bytes that were written
  pub written : List ℕ
  -- how many writes were made
  pub calls : ℕ
  -- the writes that fail, by their numbers from 1 on
  pub fails : List ℕ
  -- how many writes failed
  pub faults : ℕ
  -- how many of these were out of memory
  pub starved : ℕ

-- the next write is one of those that fail
abbrev pub FailsNext : SinkState → Type 0
FailsNext s = Contains s.fails (raised s.calls)

-- after a write that failed because it is on the list: no byte is taken
abbrev pub after_fault : SinkState → SinkState
after_fault s = record s { calls = raised s.calls; faults = raised s.faults }

-- after a write that found no memory: no byte is taken
abbrev pub after_starving : SinkState → SinkState
after_starving s = record (after_fault s) { starved = raised s.starved }

-- after a write that took the piece
abbrev pub after_piece : SinkState → List ℕ → SinkState
after_piece s piece = record s { written = s.written ++ piece; calls = raised s.calls }
