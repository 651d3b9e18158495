use Rattle.std.proofs.Common.{◌≡◌, ℕ, ◌<◌, ◌≤◌, ◌-◌, true, length, slice_index_or}
use Rattle.green_walk.specs.declared.copied_slots.CopiedSlot.{CopiedSlot}
use Rattle.green_walk.specs.Greening.{waits}
use Rattle.green_walk.proofs.green.Green.first_waiting.Given as goal

abbrev pub invariant-loop-place : goal.invariant-loop-place
invariant-loop-place g l = record {
  within : l.place ≤ length l.self.copied;
  behind : l.from ≤ l.place;
  skips : (k : ℕ) (d : CopiedSlot) → l.from ≤ k → k < l.place → waits l.self (slice_index_or l.self.copied k d).id ≡ true → ⊥;
}

abbrev pub decreases-loop-place : goal.decreases-loop-place
decreases-loop-place g l = length l.self.copied - l.place
