use Rattle.std.proofs.Common.{◌≢◌, ◌<◌, ℕ, Some}
use Rattle.object_store.specs.Handles.{held_at}
use Rattle.object_store.proofs.table.Table.find.Given as goal

abbrev pub invariant-loop-register : goal.invariant-loop-register
invariant-loop-register l = (r : ℕ) → r < l.register → held_at l.self-inside.rows r ≢ Some l.id
