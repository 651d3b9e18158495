use Rattle.std.proofs.Common.{sym, arith}
use Rattle.cell_model.specs.Cells.{pointer_in}
use Rattle.cell_page.specs.Stored.{cell_of}
use Rattle.par_audit.specs.Tables.{place_of}
use Rattle.par_audit.proofs.PairLaws.{target-named, pair-hit, pair-missed}
use Rattle.par_audit.proofs.pairs.count_slot.Goals as goal

pub returns-in_ok-count_one-clause-each : goal.returns-in_ok-count_one-clause-each
returns-in_ok-count_one-clause-each g c = λ id bit within.
    let cell = c.args.cell.now in
    let one = c.in_ok-count_one.ensures.each (place_of id bit) in
    let hit = pair-hit c.place_of-at.result id _ bit _ (pointer_in (cell_of cell) c.args.slot) c.place_of-at.ensures (target-named cell.bits 0 cell.slots c.args.slot) (sym c.pointer_bit-bit.ensures.model) in
    omega (arith, one, hit)

pub returns-else-at-bytes-clause-each : goal.returns-else-at-bytes-clause-each
returns-else-at-bytes-clause-each g c = λ id bit within.
    let cell = c.args.cell.now in
    let none = pair-missed _ c.place_of-at.result id _ bit _ (pointer_in (cell_of cell) c.args.slot) c.place_of-at.ensures (target-named cell.bits 0 cell.slots c.args.slot) (sym c.pointer_bit-bit.ensures.model) c.if-at-bytes.false within in
    omega (arith, none)
