-- What is reachable lies within each set of ids with its two rules.
use Rattle.std.proofs.Common.{◌≡◌, true}
use Rattle.plain_model.proofs.ReachableLaws.{Reachable-least}
use Rattle.plain_laws.specs.Laws.{reachable-least}

pub reachable-least_proof : reachable-least
reachable-least_proof g starts is_member closed x r = Reachable-least g starts (λ y. is_member y ≡ true) closed r
