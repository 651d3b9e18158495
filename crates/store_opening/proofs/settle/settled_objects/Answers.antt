use Rattle.std.proofs.Common.{◌≡◌, subst, sym, length}
use Rattle.store_opening.specs.Marks.{AreIds, AreSettled}
use Rattle.store_opening.specs.declared.settle.Walk.{Walk}
use Rattle.store_opening.proofs.settle.settled_objects.Goals as goal
use Rattle.store_opening.proofs.settle.settled_objects.Goals.{then-not-index+in_ok-walk_from, else-not-index}

pub loop-id-preserved : goal.loop-id-preserved
loop-id-preserved g c =
    let cells = c.args.replay.now.cells in
    elim c.if-not-index.branch [
      | then-not-index+in_ok-walk_from w ↦
          record {
            settled = subst (λ (s : Walk). AreSettled cells s.settled.items) (sym w.walk-is) w.in_ok-walk_from.ensures.settled;
            seen = subst (λ (s : Walk). length s.seen.items ≡ length cells) (sym w.walk-is) w.in_ok-walk_from.ensures.seen;
            way = subst (λ (s : Walk). AreIds (length cells) s.way.items) (sym w.walk-is) w.in_ok-walk_from.ensures.way;
          }
      | else-not-index w ↦
          record {
            settled = subst (λ (s : Walk). AreSettled cells s.settled.items) (sym w.walk-is) c.loop-id.invariant.settled;
            seen = subst (λ (s : Walk). length s.seen.items ≡ length cells) (sym w.walk-is) c.loop-id.invariant.seen;
            way = subst (λ (s : Walk). AreIds (length cells) s.way.items) (sym w.walk-is) c.loop-id.invariant.way;
          }
    ]
