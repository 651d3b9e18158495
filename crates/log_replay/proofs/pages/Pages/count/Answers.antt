use Rattle.std.proofs.Common.{List, length, ap, arith}
use Rattle.cell_model.specs.Cells.{Cell}
use Rattle.log_replay.proofs.PageLists.{length-cells_of_pages}
use Rattle.log_replay.proofs.pages.Pages.count.Goals as goal

pub returns-clause-count : goal.returns-clause-count
returns-clause-count g c =
    let l = length-cells_of_pages c.self.inside.pages.items in
    let v = ap (λ (cells : List Cell). length cells) c.self.view_is in
    let o = c.self.inside.pages.ok.0 in
    let r = c.len.ensures in
    omega (arith, l, v, o, r)
