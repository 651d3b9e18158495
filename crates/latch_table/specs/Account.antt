-- What a table is told of a chronicle.
use Rattle.std.specs.Prelude.{ℕ, List, Bool, Option}

-- a number or none, and two truth values
abbrev pub Marks : Type 0
Marks = Option ℕ × Bool × Bool

-- two numbers
abbrev pub Sizes : Type 0
Sizes = ℕ × ℕ

-- Of a chronicle of type J, with entries of type E, a fixed part of type X and pages whose frames are of type F
pub record Account (E X F J : Type 0) : Type 0 where
  -- the entries, the first one first
  pub entries : J → List E
  -- what no append changes
  pub fixed : J → X
  -- three marks: one that was set stays set, and the number of the first stays
  pub marks : J → Marks
  -- two numbers that each holder of the log may change
  pub sizes : J → Sizes
  -- the frame of a page after these entries
  pub frame : X → List E → ℕ → F
  -- the number that an entry speaks for, if it speaks for one
  pub speaks : E → Option ℕ
  -- what is true of a number after these entries
  pub truth : List E → ℕ → Bool
