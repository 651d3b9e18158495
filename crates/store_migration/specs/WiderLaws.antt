-- What holds of stores that get null slots.
use Rattle.std.specs.Prelude.{ℕ, ◌+◌, List}
use Rattle.cell_model.specs.Cells.{Cell}
use Rattle.cell_model.specs.Consistent.{AreConsistent}
use Rattle.cell_model.specs.Graph.{graph_of}
use Rattle.cell_page.specs.declared.cell.Cell.{Cell as PageCell}
use Rattle.cell_page.specs.Format.{AreTyped}
use Rattle.cell_page.specs.Stored.{HoldsPage}
use Rattle.store_migration.specs.Wider.{all_wider, HasSameObjects, wide_page}

-- with null slots the cells of a store stay consistent
abbrev pub ConsistentLaw : Type 0
ConsistentLaw = (slots ids more : ℕ) (cells : List Cell) → AreConsistent slots ids cells → AreConsistent (slots + more) ids (all_wider more cells)

-- and the root reaches the same objects
abbrev pub SameObjectsLaw : Type 0
SameObjectsLaw = (more : ℕ) (cells : List Cell) → HasSameObjects more (graph_of cells) (graph_of (all_wider more cells))

-- a page of six slots, made one of fourteen, is that page of the store with eight null slots more
abbrev pub PageLaw : Type 0
PageLaw = (page : ℕ) (cells : List Cell) (held : List (PageCell 6)) → AreTyped held → HoldsPage cells page held → AreTyped (wide_page held) × HoldsPage (all_wider 8 cells) page (wide_page held)
