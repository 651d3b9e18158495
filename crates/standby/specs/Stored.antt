-- The ids of live cells.
use Rattle.std.specs.Prelude.{ℕ, if◌then◌else◌, List, [], ◌∷◌}
use Rattle.cell_model.specs.Cells.{Cell}

-- the id of a cell, where that is live
abbrev pub live_id : ℕ → Cell → List ℕ
live_id id c = if c.live then id ∷ [] else []
