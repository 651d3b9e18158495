-- A source in memory.
use Rattle.std.specs.Prelude.{ℕ, List, drop, Contains}
use Rattle.disk_model.specs.Causes.{raised}

-- what contracts see of it
pub record SourceState : Type 0 where
  -- the bytes that are left to read
  pub left : List ℕ
  -- how many reads were made
  pub calls : ℕ
  -- the reads that fail, by their numbers from 1 on
  pub fails : List ℕ
  -- how many reads failed
  pub faults : ℕ

-- the next read is one of those that fail
abbrev pub FailsNext : SourceState → Type 0
FailsNext s = Contains s.fails (raised s.calls)

-- after a read that failed: it counts as a call and as a fault, and no byte is taken
abbrev pub after_fault : SourceState → SourceState
after_fault s = record s { calls = raised s.calls; faults = raised s.faults }

-- after a read that gave n bytes
abbrev pub after_bytes : SourceState → ℕ → SourceState
after_bytes s n = record s { left = drop n s.left; calls = raised s.calls }
