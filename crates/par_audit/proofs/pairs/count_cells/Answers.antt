use Rattle.std.proofs.Common.{◌<◌, ◌≤◌, List, length, map, ap, ◌∙◌, arith}
use Rattle.std.proofs.lemmas.List.{take_all}
use Rattle.cell_model.specs.Cells.{pointers_to, aims_in}
use Rattle.cell_page.specs.declared.cell.Cell.{Cell as PageCell}
use Rattle.cell_page.specs.Stored.{cell_of}
use Rattle.par_audit.specs.Tables.{place_of}
use Rattle.auditor.proofs.CountLaws.{cell-more}
use Rattle.par_audit.proofs.pairs.count_cells.Goals as goal

pub loop-cell-preserved : goal.loop-cell-preserved
loop-cell-preserved g c =
    let item = c.cell-item.result in
    let was_len = c.loop-cell.invariant.len in
    record {
      len = c.in_ok-count_cell.ensures.len ∙ was_len;
      each = λ id bit within.
          let there : place_of id bit < length c.loop-cell.bytes = omega (arith, was_len, within) in
          let now = c.in_ok-count_cell.ensures.each id bit there in
          let was = c.loop-cell.invariant.each id bit within in
          let more = cell-more id bit c.args.piece.now c.loop-cell.cell-index item c.loop-cell-test.true in
          let same = ap (λ (d : PageCell g.row.SLOTS). aims_in id bit (cell_of d)) c.cell-item.is in
          omega (arith, now, was, more, same);
      few = λ id bit within.
          let there : place_of id bit < length c.loop-cell.bytes = omega (arith, was_len, within) in
          let now = c.in_ok-count_cell.ensures.each id bit there in
          let was = c.loop-cell.invariant.few id bit within in
          let few = c.in_ok-count_cell.ensures.few id bit in
          omega (arith, now, was, few);
    }

pub returns-clause-each : goal.returns-clause-each
returns-clause-each g c =
    let all = take_all c.loop-cell.cell-index c.args.piece.now c.loop-cell-test.false in
    λ id bit within. c.loop-cell.invariant.each id bit within ∙ ap (λ (cs : List (PageCell g.row.SLOTS)). pointers_to (map cell_of cs) id bit) all

pub returns-clause-few : goal.returns-clause-few
returns-clause-few g c = λ id bit within.
    let few = c.loop-cell.invariant.few id bit within in
    let end : c.loop-cell.cell-index ≤ length c.args.piece.now = (let auto = c.loop-cell.auto in omega (arith, auto)) in
    omega (arith, few, end)
