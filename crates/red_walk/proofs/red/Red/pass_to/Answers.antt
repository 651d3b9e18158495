use Rattle.std.proofs.Common.{sym, subst, arith}
use Rattle.red_walk.specs.Walk.{Walk, IsLook, next}
use Rattle.red_walk.proofs.WalkLaws.{walk-holds, look-quiet}
use Rattle.red_walk.proofs.KeptLaws.{moved-on, at-slot}
use Rattle.red_walk.proofs.red.Red.pass_to.Goals as goal

pub returns-then-slot-clause-quiet : goal.returns-then-slot-clause-quiet
returns-then-slot-clause-quiet g c = look-quiet _ _ _ _ _ _ _ _ _ c.self.invariant (subst (λ (w : Walk). IsLook (next w)) (sym c.self.view_is) c.requires.look)

pub returns-else-slot-clause-quiet : goal.returns-else-slot-clause-quiet
returns-else-slot-clause-quiet g c = look-quiet _ _ _ _ _ _ _ _ _ c.self.invariant (subst (λ (w : Walk). IsLook (next w)) (sym c.self.view_is) c.requires.look)

pub returns-then-slot-clause-sound : goal.returns-then-slot-clause-sound
returns-then-slot-clause-sound g c = moved-on g.row.SLOTS _ (walk-holds _ _ _ _ _ _ _ _ _ c.self.invariant)

pub returns-else-slot-clause-sound : goal.returns-else-slot-clause-sound
returns-else-slot-clause-sound g c =
    let few = c.requires.within in
    let other = c.if-slot.false in
    at-slot g.row.SLOTS _ c.args.slot (walk-holds _ _ _ _ _ _ _ _ _ c.self.invariant) (omega (arith, few, other))
