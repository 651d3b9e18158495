use Rattle.std.proofs.Common.{◌≡◌, ◌≤◌, [], false, ap, sym, subst}
use Rattle.red_walk.specs.Ids.{Ids, IsIdList}
use Rattle.ref_tables.specs.Queue.{has}
use Rattle.red_walk.specs.Walk.{Walk}
use Rattle.red_walk.proofs.WalkLaws.{walk-holds, join-step, join-walk}
use Rattle.red_walk.proofs.red.Red.join.Goals as goal

pub invariant_of-self : goal.invariant_of-self
invariant_of-self g c =
    let below = subst (λ (w : Walk). c.args.id ≤ w.limit) (sym c.self.view_is) c.requires.within.1 in
    let new = subst (λ (w : Walk). has w.list c.args.id ≡ false) (sym c.self.view_is) c.requires.new in
    let none = subst (λ (w : Walk). w.copies ≡ []) (sym c.self.view_is) c.requires.quiet in
    let ids = ap (λ (v : Ids). v.ids) c.push.ensures.joins in
    let limit = ap (λ (v : Ids). v.limit) c.push.ensures.joins in
    rw limit (join-step _ _ _ _ _ _ _ _ _ c.self.invariant _ c.args.id ids (subst (λ n. IsIdList c.push.new.self.ids n) limit c.push.ensures.sound) new below none)

pub returns-clause-joined : goal.returns-clause-joined
returns-clause-joined g c =
    let below = subst (λ (w : Walk). c.args.id ≤ w.limit) (sym c.self.view_is) c.requires.within.1 in
    let new = subst (λ (w : Walk). has w.list c.args.id ≡ false) (sym c.self.view_is) c.requires.new in
    let none = subst (λ (w : Walk). w.copies ≡ []) (sym c.self.view_is) c.requires.quiet in
    let ids = ap (λ (v : Ids). v.ids) c.push.ensures.joins in
    let limit = ap (λ (v : Ids). v.limit) c.push.ensures.joins in
    rw (← c.self.view_is, limit) (join-walk _ _ _ _ _ _ _ _ _ c.self.invariant _ c.args.id ids new below none)

pub returns-clause-sound : goal.returns-clause-sound
returns-clause-sound g c = walk-holds _ _ _ _ _ _ _ _ _ (invariant_of-self g c)
