use Rattle.std.proofs.Common.{ℕ, ◌≡◌, ◌<◌, ◌+◌, sym, subst}
use Rattle.cell_model.specs.Strong.{IsStrongAt}
use Rattle.store_opening.specs.Marks.{IsMarked, Spreads, IsStrongTarget}
use Rattle.store_opening.specs.declared.search.Search.{Search}
use Rattle.store_opening.proofs.MarkLaws.{spreads-then, slot-marked, slot-passed}
use Rattle.store_opening.proofs.search.spread.Goals as goal
use Rattle.store_opening.proofs.search.spread.Goals.{in-Some+in_ok-reach, in_default}

pub loop-slot-preserved : goal.loop-slot-preserved
loop-slot-preserved g c =
    let cells = c.args.replay.now.cells in
    let id = c.args.id in
    let slot = c.loop-slot.slot in
    let start = c.args.search.now in
    let was = c.loop-slot.search in
    let inv = c.loop-slot.invariant in
    elim c.match-strong_target.branch [
      | in-Some+in_ok-reach w ↦
          let new = w.reach.new.search in
          let to = w.in-Some.to in
          let here = w.in-Some.ensures.some in
          let reach = w.in_ok-reach.ensures in
          record {
            spreads =
                subst (λ (s : Search). Spreads (IsStrongTarget cells id) start.reached.items start.work.items s.reached.items s.work.items) (sym w.search-is)
                (spreads-then (λ x. x ≡ to) (IsStrongTarget cells id) start.reached.items was.reached.items new.reached.items start.work.items was.work.items new.work.items
                (λ x e. record { slot = slot; is = subst (λ (t : ℕ). IsStrongAt cells id slot t) (sym e) here }) inv.spreads reach.spreads);
            marked =
                subst (λ (s : Search). (k t : ℕ) → k < slot + 1 → IsStrongAt cells id k t → IsMarked s.reached.items t) (sym w.search-is)
                (slot-marked cells id slot to was.reached.items new.reached.items here reach.spreads.stay reach.marked inv.marked);
          }
      | in_default w ↦
          record {
            spreads = subst (λ (s : Search). Spreads (IsStrongTarget cells id) start.reached.items start.work.items s.reached.items s.work.items) (sym w.search-is) inv.spreads;
            marked =
                subst (λ (s : Search). (k t : ℕ) → k < slot + 1 → IsStrongAt cells id k t → IsMarked s.reached.items t) (sym w.search-is)
                (slot-passed cells id slot was.reached.items w.in_default.ensures.none inv.marked);
          }
    ]
