use Rattle.std.proofs.Common.{ℕ, ◌<◌}
use Rattle.restart_laws.specs.Rules.{BreaksRule}
use Rattle.store_opening.specs.Kept.{IsFormedAt}
use Rattle.store_opening.proofs.names.first_stray.Given as goal

abbrev pub invariant-loop-id : goal.invariant-loop-id
invariant-loop-id g l = record {
  kept : (x : ℕ) → x < l.id → BreaksRule l.replay.cells 2 x → ⊥;
  formed : (x : ℕ) → 0 < x → x < l.id → IsFormedAt g.row.SLOTS l.replay.cells x;
}
