use Rattle.std.proofs.Common.{ap, ◌∙◌}
use Rattle.cell_model.specs.Graph.{graph_of}
use Rattle.log_checker.specs.FoldedObjects.{written}
use Rattle.log_checker.proofs.GraphParts.{cell_set}
use Rattle.log_checker.proofs.WriteLaws.{graph_written}
use Rattle.log_checker.proofs.folded_objects.Objects.write.Goals as goal

pub returns-clause-cell : goal.returns-clause-cell
returns-clause-cell g c =
    cell_set c.self.inside.cells.items c.args.self.now c.args.write.now.id c.index_mut.result.now c.write_cell.new.cell (written g.row.SLOTS c.args.write.now.place c.args.write.now.value)
    c.self.view_is c.index_mut.ensures.value c.requires.inside.within c.write_cell.ensures

pub returns-clause-graph : goal.returns-clause-graph
returns-clause-graph g c =
    ap graph_of (cell_set c.self.inside.cells.items c.args.self.now c.args.write.now.id c.index_mut.result.now c.write_cell.new.cell (written g.row.SLOTS c.args.write.now.place c.args.write.now.value)
    c.self.view_is c.index_mut.ensures.value c.requires.inside.within c.write_cell.ensures)
    ∙ graph_written g.row.SLOTS c.args.self.now c.args.write.now.id c.args.write.now.value c.requires.inside.within c.args.write.now.place
