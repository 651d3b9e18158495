-- A stream of std with a count of its failures.
use Rattle.std.specs.Prelude.{ℕ}

-- what contracts see of it
pub record Counted (T : Type 0) : Type 0 where
  -- the reader or the writer
  pub inner : T
  -- how many calls failed
  pub faults : ℕ
