use Rattle.std.specs.Slice.Iter.{iter_rest}
use Rattle.std.specs.Iterator.Adapters.{rev_source}
use Rattle.strict_locks.proofs.GivingBack.{AreBeingDropped}
use Rattle.strict_locks.proofs.objects.give_back_all.Given as goal

abbrev pub invariant-loop-id : goal.invariant-loop-id
invariant-loop-id l = AreBeingDropped l.initial.locks l.locks l.pass (iter_rest (rev_source l.id-iterator))
