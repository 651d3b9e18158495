use Rattle.std.proofs.Common.{◌≡◌, false}
use Rattle.client_pass.specs.Workings.{Makes}
use Rattle.client_pass.proofs.Levels.{HasDone}
use Rattle.client_pass.proofs.working.work.Given as goal

abbrev pub invariant-transactions : goal.invariant-transactions
invariant-transactions g l = (l.pass.table ≡ l.store.table) × Makes l.fn.pass.view l.pass.view (HasDone l.calls-index l.script.txns) × (l.pass.view.knowledge.truth ≡ false) × (l.pass.refused ≡ l.fn.pass.refused)
