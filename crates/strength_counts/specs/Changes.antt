-- Which object a new pointer makes strong.
use Rattle.std.specs.Prelude.{Bool, ◌&&◌, ◌==◌}
use Rattle.std.specs.List.{list_all}
use Rattle.cell_model.specs.Cells.{Cell}

-- no strong pointer leads to the object, and its slots are null
abbrev pub takes_strong : Cell → Bool
takes_strong c = (c.strong == 0) && list_all (λ p. p.target == 0) c.pointers
