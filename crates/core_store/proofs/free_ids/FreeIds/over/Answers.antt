use Rattle.std.proofs.Common.{List, Bool, false, not, ◌&&◌, length, get_or, ap, ◌∙◌}
use Rattle.cell_model.specs.Cells.{is_live}
use Rattle.core_store.specs.Opening.{store_of}
use Rattle.core_store.proofs.OpeningCells.{free-over}
use Rattle.core_store.proofs.free_ids.FreeIds.over.Goals as goal

pub returns-clause-free : goal.returns-clause-free
returns-clause-free g c =
    let cells = c.args.cells.now in
    free-over (store_of cells) c.mark_live.new.row.items (length cells) (λ id low high.
    c.mark_live.ensures.marked id low high ∙ ap (λ (row : List Bool). not (is_live (store_of cells) id) && get_or row id false) (c.in_ok-row.ensures.items_if_clones_equal (λ y same. same)))
