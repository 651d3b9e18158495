use Rattle.std.proofs.Common.{◌≤◌, subst}
use Rattle.core_store.specs.RoundView.{Rounds}
use Rattle.core_store.proofs.round.Round.len.Goals as goal

pub returns-in-Walking-clause-few : goal.returns-in-Walking-clause-few
returns-in-Walking-clause-few g c =
    subst (λ (r : Rounds). c.len.result ≤ r.limit) c.self.view_is (subst (λ n. c.len.result ≤ n) c.self.invariant.walk_limit c.len.ensures.few)
