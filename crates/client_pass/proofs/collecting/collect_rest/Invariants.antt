use Rattle.std.proofs.Common.{◌≡◌, ◌<◌, ◌-◌, ◌^◌}
use Rattle.client_pass.specs.Runs.{Collects}
use Rattle.client_pass.proofs.collecting.collect_rest.Given as goal

abbrev pub invariant-turns : goal.invariant-turns
invariant-turns g l =
    (l.main.table ≡ l.store.table)
    × Collects l.fn.main.view l.main.view
    × (l.main.refused ≡ l.fn.main.refused)
    × (l.main.view.knowledge.seen < 2 ^ 64)

-- each event makes the history longer
abbrev pub decreases-turns : goal.decreases-turns
decreases-turns g l = 2 ^ 64 - l.main.view.knowledge.seen
