use Rattle.std.proofs.Common.{sym, subst}
use Rattle.red_walk.specs.Walk.{Walk, IsLook, next}
use Rattle.red_walk.proofs.WalkLaws.{walk-holds, look-quiet}
use Rattle.red_walk.proofs.KeptLaws.{moved-on, moved-within}
use Rattle.red_walk.proofs.red.Red.passed.Goals as goal

pub returns-else-self-clause-quiet : goal.returns-else-self-clause-quiet
returns-else-self-clause-quiet g c = look-quiet _ _ _ _ _ _ _ _ _ c.self.invariant (subst (λ (w : Walk). IsLook (next w)) (sym c.self.view_is) c.requires)

pub returns-then-self-clause-sound : goal.returns-then-self-clause-sound
returns-then-self-clause-sound g c = moved-on g.row.SLOTS _ (walk-holds _ _ _ _ _ _ _ _ _ c.self.invariant)

pub returns-else-self-clause-sound : goal.returns-else-self-clause-sound
returns-else-self-clause-sound g c = moved-within g.row.SLOTS _ (walk-holds _ _ _ _ _ _ _ _ _ c.self.invariant) c.if-self.false
