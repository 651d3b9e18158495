use Rattle.std.proofs.Common.{◌≡◌}
use Rattle.client_pass.specs.Attempts.{AreBusy}
use Rattle.client_pass.specs.Workings.{Makes}
use Rattle.client_pass.proofs.attempts.try_call.Given as goal

abbrev pub invariant-tries : goal.invariant-tries
invariant-tries g l = (l.pass.table ≡ l.store.table) × Makes l.fn.pass.view l.pass.view (AreBusy l.counter l.call) × (l.pass.refused ≡ l.fn.pass.refused)
