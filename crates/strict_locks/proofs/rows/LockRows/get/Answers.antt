use Rattle.std.proofs.Common.{sym}
use Rattle.strict_locks.proofs.RowLaws.{found-in, lookup-missing}
use Rattle.strict_locks.proofs.rows.LockRows.get.Goals as goal

pub returns-in-Some : goal.returns-in-Some
returns-in-Some c =
    let f = c.in-Some.ensures.found in
    record { value = rw (← c.self.view_is) (sym (found-in c.self.inside.ids.items c.self.inside.locks.items _ c.in-Some.place c.args.id c.index.result.now c.self.invariant f.0 f.1 c.index.ensures)) }

pub returns-in-None : goal.returns-in-None
returns-in-None c = record { value = rw (← c.self.view_is) (sym (lookup-missing c.self.inside.ids.items c.self.inside.locks.items c.args.id c.in-None.ensures.missing)) }
