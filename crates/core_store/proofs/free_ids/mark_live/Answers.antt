use Rattle.std.proofs.Common.{◌+◌, Bool, Vec, Global, subst, sym, arith}
use Rattle.core_store.proofs.OpeningCells.{AreMarked, marked-none, marked-live, marked-free}
use Rattle.core_store.proofs.free_ids.mark_live.Goals as goal
use Rattle.core_store.proofs.free_ids.mark_live.Goals.{then-cell, else-cell}

pub loop-place-init : goal.loop-place-init
loop-place-init g c = marked-none c.args.cells.now c.args.row.now.items

pub loop-place-preserved : goal.loop-place-preserved
loop-place-preserved g c =
    let cells = c.args.cells.now in
    let old = c.args.row.now.items in
    let now = c.loop-place.row.items in
    let at = c.loop-place.place in
    elim c.if-cell.branch [
      | then-cell w ↦ subst (λ (v : Vec Bool Global). AreMarked cells old v.items (at + 1)) (sym w.row-is) (marked-live cells old now at c.index-cells-place.result c.loop-place-test.true c.index-cells-place.is c.requires c.loop-place.invariant w.if-cell.true)
      | else-cell w ↦ subst (λ (v : Vec Bool Global). AreMarked cells old v.items (at + 1)) (sym w.row-is) (marked-free cells old now at c.index-cells-place.result c.loop-place-test.true c.index-cells-place.is c.requires c.loop-place.invariant w.if-cell.false)
    ]

pub returns-clause-marked : goal.returns-clause-marked
returns-clause-marked g c = let all = c.loop-place-test.false in λ id low high. c.loop-place.invariant.before id low (omega (arith, all, high))
