use Rattle.std.proofs.Common.{◌≡◌, ℕ, ◌<◌, ◌≤◌, List, false}
use Rattle.cell_model.specs.Cells.{Cell, pointer_at}
use Rattle.core_store.specs.Changes.{is_counted_strong}
use Rattle.core_store.specs.Frames.{Agree}
use Rattle.core_store.proofs.slots.first_strong.Given as goal

-- the slots so far hold no strong pointer
abbrev pub invariant-loop-place : goal.invariant-loop-place
invariant-loop-place g l = (cells : List Cell) → Agree cells l.held → (k : ℕ) → l.from ≤ k → k < l.place → is_counted_strong cells (pointer_at cells l.id k) ≡ false
