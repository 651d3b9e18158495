use Rattle.std.proofs.Common.{◌≡◌, ℕ, ◌<◌, ◌≤◌, get_or}
use Rattle.core_store.proofs.looks.next_pointer.Given as goal

-- the slots so far are null
abbrev pub invariant-loop-place : goal.invariant-loop-place
invariant-loop-place g l = (k : ℕ) → l.from ≤ k → k < l.place → get_or l.slots k 0 ≡ 0
