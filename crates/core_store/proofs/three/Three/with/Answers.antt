use Rattle.std.proofs.Common.{refl, [], ◌∷◌}
use Rattle.core_store.proofs.ThreeLaws.{none-put}
use Rattle.core_store.proofs.three.Three.with.Goals as goal

pub invariant_of-result : goal.invariant_of-result
invariant_of-result g c = none-put c.args.all (record { page = 0; frame = record { page = c.fresh.result } } ∷ record { page = 0; frame = record { page = c.fresh.result } } ∷ record { page = 0; frame = record { page = c.fresh.result } } ∷ []) refl c.requires.few
