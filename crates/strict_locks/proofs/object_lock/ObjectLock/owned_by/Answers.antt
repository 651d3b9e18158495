use Rattle.std.proofs.Common.{Some, ap}
use Rattle.strict_locks.specs.Locks.{Holders}
use Rattle.strict_locks.proofs.ClientSetLaws.{members-none}
use Rattle.strict_locks.proofs.object_lock.ObjectLock.owned_by.Goals as goal

pub returns : goal.returns
returns c = ap (λ xs. let h : Holders = record { owner = Some c.args.pass; sharers = xs } in h) (members-none c.new.result c.new.ensures)
