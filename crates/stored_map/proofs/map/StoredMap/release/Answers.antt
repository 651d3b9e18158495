use Rattle.std.proofs.Common.{subst}
use Rattle.stored_map.specs.declared.kept.Kept.{Kept}
use Rattle.stored_map.specs.Stores.{Releases}
use Rattle.stored_map.proofs.map.StoredMap.release.Goals as goal

pub released-requires-clause-kept : goal.released-requires-clause-kept
released-requires-clause-kept g c κs within = c.self.invariant

pub returns-clause-released : goal.returns-clause-released
returns-clause-released g c = subst (λ (k : Kept _). Releases k c.released.result) c.self.view_is c.released.ensures.released
