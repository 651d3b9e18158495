-- What is held of a log area.
use Rattle.std.specs.Prelude.{◌≡◌, ℕ, ◌+◌, ◌≤◌, List, length, take, drop, Option, IfSome}
use Rattle.log_printing.specs.declared.window.Window.{Window}

-- The window holds bytes of an area within its first ones, so many, which are there where the area is told.
pub record IsWindow (len : ℕ) (area : Option (List ℕ)) (w : Window) : Type 0 where
  pub few : w.count ≤ 4096
  pub within : w.«from» + w.count ≤ len
  pub there : IfSome area (λ c. len ≤ length c)
  pub held : IfSome area (λ c. take w.count w.bytes ≡ take w.count (drop w.«from» (take len c)))
