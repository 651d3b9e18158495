use Rattle.std.proofs.Common.{◌≡◌, false, not, filter, get_or, subst}
use Rattle.ref_tables.specs.Queue.{has}
use Rattle.red_walk.specs.Walk.{Walk}
use Rattle.red_walk.proofs.Filters.{filter-again}
use Rattle.red_walk.proofs.WalkLaws.{walk-holds}
use Rattle.red_walk.proofs.red.Red.list.Goals as goal

pub returns-clause-left : goal.returns-clause-left
returns-clause-left g c =
    let a = c.self.inside in
    subst (λ (w : Walk). filter (λ id. has w.left id) c.ids.result.now ≡ w.left) c.self.view_is
    (rw c.ids.ensures.ids (filter-again (λ x. not (get_or a.freed.items x false)) a.list.ids))

pub returns-clause-sound : goal.returns-clause-sound
returns-clause-sound g c = rw (← c.self.view_is) (walk-holds _ _ _ _ _ _ _ _ _ c.self.invariant)
