-- The queue of a store that opens.
use Rattle.std.specs.Prelude.{ℕ, suc, ◌==◌, ◌&&◌, not, if◌then◌else◌, List, [], ◌∷◌, ◌++◌, None}
use Rattle.plain_model.specs.Graphs.{root}
use Rattle.plain_model.specs.History.{opening_moment}
use Rattle.cell_model.specs.Cells.{Cell}
use Rattle.cell_model.specs.Graph.{graph_of}
use Rattle.store_model.specs.Core.{Core}

-- the live objects but the root that no strong pointer leads to, where the first cell is that of this id
abbrev pub zeros_from : ℕ → List Cell → List ℕ
zeros_from id [] = []
zeros_from id (c ∷ cs) = (if c.live && (not (id == root) && (c.strong == 0)) then id ∷ [] else []) ++ zeros_from (suc id) cs

-- the live objects but the root that no strong pointer leads to, ascending: the queue of a store that opens
abbrev pub zeros_of : List Cell → List ℕ
zeros_of cells = zeros_from 0 cells

-- what a store has that opens to these cells: no client is active, nothing is named, and no round is open
abbrev pub opened_core : ℕ → ℕ → List Cell → Core
opened_core ids slots cells = record { cells = cells; moment = opening_moment ids slots (graph_of cells); refs = []; queue = zeros_of cells; round = None }
