use Rattle.std.proofs.Common.{◌≡◌}
use Rattle.client_pass.specs.Runs.{Collects}
use Rattle.client_pass.proofs.collecting.collect_beside.Given as goal

abbrev pub invariant-turns : goal.invariant-turns
invariant-turns g l = (l.main.table ≡ l.store.table) × Collects l.fn.main.view l.main.view × (l.main.refused ≡ l.fn.main.refused)
