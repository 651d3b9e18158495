use Rattle.std.proofs.Common.{◌≡◌, ℕ, ◌<◌, ◌≤◌, get_or, false}
use Rattle.core_store.proofs.free_ids.next_free.Given as goal

-- none so far is marked
abbrev pub invariant-loop-id : goal.invariant-loop-id
invariant-loop-id l = (k : ℕ) → l.from ≤ k → k < l.id → get_or l.row.items k false ≡ false
