use Rattle.green_walk.proofs.GreenFound.{moved-in-step, goes-on, goes-within}
use Rattle.green_walk.proofs.green.Green.move_to.Goals as goal
use Rattle.green_walk.proofs.green.Green.move_to.Goals.{then-slot, else-slot}

pub invariant_of-self : goal.invariant_of-self
invariant_of-self g c =
    let k = c.self.invariant in
    moved-in-step _ _ _ _ _ _ _ _ _ _ _ _ k c.args.self.now c.args.place c.requires.at.0 c.args.slot c.if-slot.self c.self.view_is c.requires.at.1 c.requires.settled c.requires.within
    (elim c.if-slot.branch [
      | then-slot v ↦ goes-on _ _ _ _ _ _ _ _ _ _ _ _ k c.args.place c.args.slot c.if-slot.self v.if-slot.true v.self-is
      | else-slot v ↦ goes-within _ _ _ _ _ _ _ _ _ _ _ _ k c.args.place c.args.slot c.if-slot.self v.if-slot.false v.self-is
    ])

pub returns-clause-sound : goal.returns-clause-sound
returns-clause-sound g c = (invariant_of-self g c).sound
