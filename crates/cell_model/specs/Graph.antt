-- The graph that cells stand for.
use Rattle.std.specs.Prelude.{ℕ, suc, if◌then◌else◌, List, [], ◌∷◌, ◌++◌}
use Rattle.plain_model.specs.declared.object.Object.{Object}
use Rattle.cell_model.specs.Cells.{Cell, object_of}

-- the objects of the live cells, where the first cell is that of this id
abbrev pub graph_from : ℕ → List Cell → List Object
graph_from id [] = []
graph_from id (c ∷ cs) = (if c.live then object_of id c ∷ [] else []) ++ graph_from (suc id) cs

-- the graph that the cells stand for
abbrev pub graph_of : List Cell → List Object
graph_of cells = graph_from 0 cells
