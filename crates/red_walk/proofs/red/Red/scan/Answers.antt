use Rattle.std.proofs.Common.{◌≡◌, [], ◌∷◌, ◌++◌, arith, sym, subst}
use Rattle.red_walk.specs.declared.red_at.RedAt.TheVariants.{Copy as CopyOf}
use Rattle.red_walk.specs.Walk.{Walk, next}
use Rattle.red_walk.proofs.WalkLaws.{walk-holds, scan-room, scan-step, scan-walk}
use Rattle.red_walk.proofs.red.Red.scan.Goals as goal

pub invariant_of-self : goal.invariant_of-self
invariant_of-self g c =
    let asked = subst (λ (w : Walk). next w ≡ CopyOf c.args.id) (sym c.self.view_is) c.requires in
    let room = scan-room _ _ _ _ _ _ _ _ _ c.self.invariant c.args.id asked in
    let items : c.push.new.self.items ≡ c.self.inside.copies.items ++ c.args.copy ∷ [] = grind (arith, c.push.ensures.items, c.push.ensures.full, room) in
    rw items (scan-step _ _ _ _ _ _ _ _ _ c.self.invariant c.args.id c.args.copy _ asked (grind (arith, c.push.ensures.capacity)))

pub returns-clause-copied : goal.returns-clause-copied
returns-clause-copied g c =
    let asked = subst (λ (w : Walk). next w ≡ CopyOf c.args.id) (sym c.self.view_is) c.requires in
    let room = scan-room _ _ _ _ _ _ _ _ _ c.self.invariant c.args.id asked in
    let items : c.push.new.self.items ≡ c.self.inside.copies.items ++ c.args.copy ∷ [] = grind (arith, c.push.ensures.items, c.push.ensures.full, room) in
    rw (← c.self.view_is, items) (scan-walk _ _ _ _ _ _ _ _ _ c.self.invariant c.args.id c.args.copy asked)

pub returns-clause-sound : goal.returns-clause-sound
returns-clause-sound g c = walk-holds _ _ _ _ _ _ _ _ _ (invariant_of-self g c)
