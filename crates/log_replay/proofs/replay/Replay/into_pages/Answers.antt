use Rattle.std.proofs.Common.{List, length, ap, arith}
use Rattle.cell_model.specs.Cells.{Cell}
use Rattle.log_replay.specs.Replays.{Replaying}
use Rattle.log_replay.proofs.PageLists.{length-cells_of_pages}
use Rattle.log_replay.proofs.replay.Replay.into_pages.Goals as goal

-- src/cells.rt:63:5
pub returns-clause-count : goal.returns-clause-count
returns-clause-count g c =
    let l = length-cells_of_pages c.into_pages.result.items in
    let v = ap (λ (cells : List Cell). length cells) c.into_pages.ensures.cells in
    let s = c.self.invariant.sized in
    let k = ap (λ (r : Replaying). length r.skips) c.self.view_is in
    omega (arith, l, v, s, k)
