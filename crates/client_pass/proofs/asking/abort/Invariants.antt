use Rattle.std.proofs.Common.{◌≡◌}
use Rattle.client_pass.specs.Attempts.{AreUndos}
use Rattle.client_pass.specs.Workings.{Makes}
use Rattle.client_pass.proofs.asking.abort.Given as goal

abbrev pub invariant-steps : goal.invariant-steps
invariant-steps g l =
    (goal.iterator-steps g).can_next l.iterator'
    × (goal.iterator-steps g).is_finite l.iterator'
    × (l.pass.table ≡ l.store.table)
    × Makes l.fn.pass.view l.pass.view AreUndos
    × (l.pass.refused ≡ l.fn.pass.refused)
