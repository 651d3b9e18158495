use Rattle.std.proofs.Common.{◌+◌, ◌∙◌, List, ℕ, ap, sym, length}
use Rattle.ref_tables.specs.Queue.{Queue, joined}
use Rattle.core_store.proofs.OpeningCells.{queue-joins, queue-keeps}
use Rattle.core_store.proofs.opening.queue.Goals as goal
use Rattle.core_store.proofs.opening.queue.Goals.{then-is_zero, else-is_zero}

pub loop-place-preserved : goal.loop-place-preserved
loop-place-preserved g c =
    let cells = c.args.cells.now in
    let at = c.loop-place.place in
    let cell = c.index-cells-place.result in
    let seen : List ℕ → Queue = λ ids. record { ids = ids; limit = length cells } in
    elim c.if-is_zero.branch [
      | then-is_zero w ↦ w.queue-is ∙ (w.push.ensures ∙ (ap (λ (q : Queue). let r : Queue = record q { ids = joined q.ids (at + 1) } in r) c.loop-place.invariant
          ∙ ap seen (queue-joins cells at cell c.loop-place-test.true c.index-cells-place.is (sym c.is_zero.ensures ∙ w.if-is_zero.true))))
      | else-is_zero w ↦ w.queue-is ∙ (c.loop-place.invariant ∙ ap seen (queue-keeps cells at cell c.loop-place-test.true c.index-cells-place.is (sym c.is_zero.ensures ∙ w.if-is_zero.false)))
    ]
