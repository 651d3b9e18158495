use Rattle.strict_locks.proofs.IndexLaws.{AreListed-give}
use Rattle.strict_locks.proofs.lock_table.LockTable.drop_shared.Goals as goal

pub invariant_of-self : goal.invariant_of-self
invariant_of-self c = record {
  held = c.give_back.ensures.held c.self.invariant.held;
  listed = AreListed-give _ _ c.self.inside.lists.items _ c.args.pass c.args.id c.give_back.ensures.gives c.take_out.ensures c.self.invariant.listed;
}
