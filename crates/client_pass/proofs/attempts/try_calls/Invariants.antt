use Rattle.std.proofs.Common.{◌≡◌, ◌∷◌, take}
use Rattle.plain_model.specs.declared.calls.Call.TheVariants.{Begin}
use Rattle.client_pass.specs.Attempts.{AreAnswered}
use Rattle.client_pass.specs.Workings.{Makes}
use Rattle.client_pass.proofs.attempts.try_calls.Given as goal

abbrev pub invariant-calls : goal.invariant-calls
invariant-calls g l = (l.pass.table ≡ l.store.table) × Makes l.fn.pass.view l.pass.view (AreAnswered (Begin ∷ take l.call-index l.calls)) × (l.pass.refused ≡ l.fn.pass.refused)
