use Rattle.std.proofs.Common.{◌<◌, length, ap, ◌∙◌, arith}
use Rattle.cell_model.specs.Cells.{Cell, aims_in}
use Rattle.store_opening.proofs.CountLaws.{cell-more}
use Rattle.store_opening.proofs.counts.count_cells.Goals as goal

pub loop-id-preserved : goal.loop-id-preserved
loop-id-preserved g c =
    let cells = c.args.replay.now.cells in
    let test = c.loop-id-test.true in
    let sized = c.last_id-end.ensures.sized in
    record {
      len = c.count_cell.ensures.len ∙ c.loop-id.invariant.len;
      each = λ x within.
          let there : x < length c.loop-id.counts = (let l = c.loop-id.invariant.len in omega (arith, l, within)) in
          let now = c.count_cell.ensures.each x there in
          let was = c.loop-id.invariant.each x within in
          let more = cell-more x c.args.bit cells c.loop-id.id (omega (arith, test, sized)) in
          let same = ap (λ (d : Cell). aims_in x c.args.bit d) c.cell.ensures.model in
          omega (arith, now, was, more, same);
      few = λ x within.
          let there : x < length c.loop-id.counts = (let l = c.loop-id.invariant.len in omega (arith, l, within)) in
          let now = c.count_cell.ensures.each x there in
          let was = c.loop-id.invariant.few x within in
          let few = c.count_cell.ensures.few x in
          omega (arith, now, was, few);
    }
