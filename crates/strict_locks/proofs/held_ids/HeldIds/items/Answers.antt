use Rattle.strict_locks.proofs.HeldLaws.{noted-distinct}
use Rattle.strict_locks.proofs.held_ids.HeldIds.items.Goals as goal

pub returns-clause-once : goal.returns-clause-once
returns-clause-once c = rw (← c.self.view_is) (noted-distinct c.self.inside.ids.items c.self.inside.places.items c.self.invariant)
