use Rattle.std.proofs.Common.{refl, sym}
use Rattle.strict_locks.proofs.RowLaws.{found-in, lookup-missing, zip-set, same-lent}
use Rattle.strict_locks.proofs.rows.LockRows.get_mut.Goals as goal

pub returns-in-Some : goal.returns-in-Some
returns-in-Some c =
    let ids = c.self.inside.ids.items in
    let locks = c.self.inside.locks.items in
    let places = c.self.inside.places.items in
    let f = c.in-Some.ensures.found in
    rw (← c.self.view_is) (
      same-lent _ _ _ (λ h. zip-set ids locks places c.in-Some.place c.args.id h c.self.invariant.placed f.0 f.1),
      record { writes_back = tt; value = sym (found-in ids locks places c.in-Some.place c.args.id c.index_mut.result.now c.self.invariant f.0 f.1 c.index_mut.ensures.value) },
    )

pub returns-in-None : goal.returns-in-None
returns-in-None c =
    rw (← c.self.view_is) (refl, record { writes_back = tt; value = sym (lookup-missing c.self.inside.ids.items c.self.inside.locks.items c.args.id c.in-None.ensures.missing) })
