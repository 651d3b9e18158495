use Rattle.strict_locks.proofs.IndexLaws.{AreSound-none}
use Rattle.strict_locks.proofs.lock_table.LockTable.new.Goals as goal

pub invariant_of-result : goal.invariant_of-result
invariant_of-result c = rw (c.new.ensures, c.new-2.ensures.items) AreSound-none
