use Rattle.std.proofs.Common.{◌≡◌}
use Rattle.core_store.specs.FreeIds.{taken}
use Rattle.core_store.proofs.free_ids.FreeIds.stored.Given as goal

abbrev pub invariant-loop-i : goal.invariant-loop-i
invariant-loop-i l = l.stored.items ≡ taken l.self.ids l.i
