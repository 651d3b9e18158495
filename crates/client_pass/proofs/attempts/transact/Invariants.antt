use Rattle.std.proofs.Common.{◌≡◌, false}
use Rattle.client_pass.specs.Workings.{Makes}
use Rattle.client_pass.proofs.Levels.{HasGivenUp}
use Rattle.client_pass.proofs.attempts.transact.Given as goal

abbrev pub invariant-attempts : goal.invariant-attempts
invariant-attempts g l = (l.pass.table ≡ l.store.table) × Makes l.fn.pass.view l.pass.view (HasGivenUp l.counter l.calls) × (l.pass.view.knowledge.truth ≡ false) × (l.pass.refused ≡ l.fn.pass.refused)
