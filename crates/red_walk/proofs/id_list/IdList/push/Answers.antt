use Rattle.std.proofs.Common.{◌≡◌, ◌≤◌, false, length, sym, subst, arith}
use Rattle.red_walk.specs.Ids.{Ids}
use Rattle.ref_tables.specs.Queue.{has}
use Rattle.red_walk.proofs.IdLaws.{kept-push, kept-room, kept-list}
use Rattle.red_walk.proofs.id_list.IdList.push.Goals as goal

pub overflow_cast-len : goal.overflow_cast-len
overflow_cast-len c = let l = kept-list _ _ _ _ c.self.invariant in grind (arith, l.most, c.len.ensures, c.self.invariant.small)

pub push_into_room-requires : goal.push_into_room-requires
push_into_room-requires c =
    let below : c.args.id ≤ c.self.inside.limit = grind (arith, c.requires.within, c.self.view_is) in
    let new : has c.self.inside.order.items c.args.id ≡ false = subst (λ (v : Ids). has v.ids c.args.id ≡ false) (sym c.self.view_is) c.requires.new in
    let room = kept-room _ _ _ _ c.args.id c.self.invariant c.requires.within.0 below new in
    grind (arith, room, c.self.invariant.room)

pub invariant_of-self : goal.invariant_of-self
invariant_of-self c =
    let below : c.args.id ≤ c.self.inside.limit = grind (arith, c.requires.within, c.self.view_is) in
    let new : has c.self.inside.order.items c.args.id ≡ false = subst (λ (v : Ids). has v.ids c.args.id ≡ false) (sym c.self.view_is) c.requires.new in
    let place : c.len.result ≡ length c.self.inside.order.items = grind (arith, c.len.ensures) in
    rw c.push_into_room.ensures.ids (kept-push _ _ _ _ _ c.args.id _ place c.self.invariant c.requires.within.0 below new c.push_into_room.ensures.capacity)

pub returns-clause-sound : goal.returns-clause-sound
returns-clause-sound c =
    let below : c.args.id ≤ c.self.inside.limit = grind (arith, c.requires.within, c.self.view_is) in
    let new : has c.self.inside.order.items c.args.id ≡ false = subst (λ (v : Ids). has v.ids c.args.id ≡ false) (sym c.self.view_is) c.requires.new in
    let place : c.len.result ≡ length c.self.inside.order.items = grind (arith, c.len.ensures) in
    rw c.push_into_room.ensures.ids (kept-list _ _ _ _ (kept-push _ _ _ _ _ c.args.id _ place c.self.invariant c.requires.within.0 below new c.push_into_room.ensures.capacity))
