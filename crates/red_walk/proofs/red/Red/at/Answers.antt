use Rattle.std.proofs.Common.{arith}
use Rattle.red_walk.proofs.WalkLaws.{walk-holds, copy-is-next, verdict-is-next}
use Rattle.red_walk.proofs.red.Red.at.Goals as goal

pub returns-then-self-list-clause-sound : goal.returns-then-self-list-clause-sound
returns-then-self-list-clause-sound g c = rw (← c.self.view_is) (walk-holds _ _ _ _ _ _ _ _ _ c.self.invariant)

pub returns-then-len-list-clause-sound : goal.returns-then-len-list-clause-sound
returns-then-len-list-clause-sound g c = rw (← c.self.view_is) (walk-holds _ _ _ _ _ _ _ _ _ c.self.invariant)

pub returns-clause-sound : goal.returns-clause-sound
returns-clause-sound g c = rw (← c.self.view_is) (walk-holds _ _ _ _ _ _ _ _ _ c.self.invariant)

pub returns-then-len-list-clause-next : goal.returns-then-len-list-clause-next
returns-then-len-list-clause-next g c =
    rw (← c.self.view_is) (copy-is-next _ _ _ _ _ _ _ _ _ c.self.invariant c.ids-list.result.now c.len-then-len-list.result c.ids-list.ensures.ids (grind (arith, c.len-then-len-list.ensures)) c.if-self-list.false (grind (arith, c.len-then-len-list.ensures, c.len.ensures, c.if-len-list.true)))

pub returns-clause-next : goal.returns-clause-next
returns-clause-next g c =
    rw (← c.self.view_is) (verdict-is-next _ _ _ _ _ _ _ _ _ c.self.invariant c.ids-list.result.now c.len.result c.ids-list.ensures.ids (grind (arith, c.len.ensures)) c.if-self-list.false c.if-len-list.false)
