use Rattle.strict_locks.proofs.lock_table.LockTable.holder.Goals as goal

pub returns-clause-exclusive : goal.returns-clause-exclusive
returns-clause-exclusive c = rw (← c.self.view_is) c.least_holder.ensures.exclusive
