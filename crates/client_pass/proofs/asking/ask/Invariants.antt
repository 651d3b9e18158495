use Rattle.std.proofs.Common.{◌≡◌}
use Rattle.client_pass.specs.Workings.{Makes, AreNone}
use Rattle.client_pass.proofs.asking.ask.Given as goal

abbrev pub invariant-tries : goal.invariant-tries
invariant-tries g l =
    (goal.iterator-tries g).can_next l.iterator'
    × (goal.iterator-tries g).is_finite l.iterator'
    × (l.pass.table ≡ l.store.table)
    × Makes l.fn.pass.view l.pass.view AreNone
    × (l.pass.refused ≡ l.fn.pass.refused)
