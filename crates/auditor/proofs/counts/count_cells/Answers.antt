use Rattle.std.proofs.Common.{◌<◌, List, length, map, ap, ◌∙◌, arith}
use Rattle.std.proofs.lemmas.List.{length-map, take_all}
use Rattle.cell_model.specs.Cells.{pointers_to, aims_in}
use Rattle.cell_page.specs.declared.cell.Cell.{Cell as PageCell}
use Rattle.cell_page.specs.Stored.{cell_of}
use Rattle.auditor.proofs.CountLaws.{cell-more}
use Rattle.auditor.proofs.counts.count_cells.Goals as goal

pub loop-cell-preserved : goal.loop-cell-preserved
loop-cell-preserved g c =
    let item = c.cell-item.result in
    record {
      len = c.count_cell.ensures.len ∙ c.loop-cell.invariant.len;
      each = λ id within.
          let there : id < length c.loop-cell.counts = (let l = c.loop-cell.invariant.len in omega (arith, l, within)) in
          let now = c.count_cell.ensures.each id there in
          let was = c.loop-cell.invariant.each id within in
          let more = cell-more id c.args.bit c.args.cells.now c.loop-cell.cell-index item c.loop-cell-test.true in
          let same = ap (λ (d : PageCell g.row.SLOTS). aims_in id c.args.bit (cell_of d)) c.cell-item.is in
          omega (arith, now, was, more, same);
      few = λ id within.
          let there : id < length c.loop-cell.counts = (let l = c.loop-cell.invariant.len in omega (arith, l, within)) in
          let now = c.count_cell.ensures.each id there in
          let was = c.loop-cell.invariant.few id within in
          let few = c.count_cell.ensures.few id in
          omega (arith, now, was, few);
    }

pub returns-clause-counted : goal.returns-clause-counted
returns-clause-counted g c =
    let size = length-map c.args.cells.now cell_of in
    let all = take_all c.loop-cell.cell-index c.args.cells.now c.loop-cell-test.false in
    record {
      len = (let l = c.loop-cell.invariant.len in omega (arith, l, size));
      each = λ id within.
          c.loop-cell.invariant.each id (omega (arith, size, within))
          ∙ ap (λ (cs : List (PageCell g.row.SLOTS)). pointers_to (map cell_of cs) id c.args.bit) all;
    }
