use Rattle.std.proofs.Common.{ℕ, ◌<◌}
use Rattle.restart_laws.specs.Rules.{BreaksRule}
use Rattle.store_opening.proofs.counts.first_miscounted.Given as goal

abbrev pub invariant-loop-id : goal.invariant-loop-id
invariant-loop-id g l = (x : ℕ) → x < l.id → BreaksRule l.replay.cells 3 x → ⊥
