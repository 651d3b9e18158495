use Rattle.strict_locks.proofs.IndexLaws.{AreListed-drop}
use Rattle.strict_locks.proofs.lock_table.LockTable.drop_all.Goals as goal

pub invariant_of-self : goal.invariant_of-self
invariant_of-self c = record {
  held = c.give_back_all.ensures.held c.self.invariant.held;
  listed = AreListed-drop _ _ c.self.inside.lists.items _ c.args.pass c.give_back_all.ensures.drops c.clear.ensures c.self.invariant.listed;
}
