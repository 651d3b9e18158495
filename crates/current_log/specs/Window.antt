-- What is held of an area.
use Rattle.std.specs.Prelude.{◌≡◌, ℕ, ◌≤◌, List, take, drop, Option, IfSome}
use Rattle.current_log.specs.declared.window.Window.{Window}

-- The window holds bytes of the area, so many from an offset on, where the area is told.
pub record IsWindow (area : Option (List ℕ)) (w : Window) : Type 0 where
  pub few : w.count ≤ 16384
  pub held : IfSome area (λ c. take w.count w.bytes ≡ take w.count (drop w.«from» c))
