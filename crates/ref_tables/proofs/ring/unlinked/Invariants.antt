use Rattle.std.proofs.Common.{◌≡◌, ℕ, ◌<◌}
use Rattle.ref_tables.specs.Ring.{IsLinked, next_of, previous_of}
use Rattle.ref_tables.proofs.ring.unlinked.Given as goal

abbrev pub invariant-ids : goal.invariant-ids
invariant-ids l = record {
  linked : (id : ℕ) → id < l.id → IsLinked l.links id;
  next : (id : ℕ) → next_of l.links id ≡ 0;
  previous : (id : ℕ) → previous_of l.links id ≡ 0;
}
