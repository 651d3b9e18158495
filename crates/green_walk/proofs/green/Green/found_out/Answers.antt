use Rattle.std.proofs.Common.{◌≤◌, sym, subst}
use Rattle.green_walk.proofs.GreenFound.{made-out-within, made-out-in-step, passed-out-in-step, moves-on, moves-within}
use Rattle.green_walk.proofs.green.Green.found_out.Goals as goal
use Rattle.green_walk.proofs.green.Green.found_out.Goals.{in-Made, in_default, then-slot, else-slot}

pub push-requires-clause-within : goal.push-requires-clause-within
push-requires-clause-within g c =
    let k = c.self.invariant in
    let w = made-out-within _ _ _ _ _ _ _ _ _ _ _ _ k c.args.self.now c.args.place c.args.slot c.args.what c.in-Made.id c.self.view_is c.in-Made.is c.requires.answer in
    (w.0, subst (λ m. c.in-Made.id ≤ m) (sym k.green_limit) w.1)

pub invariant_of-self : goal.invariant_of-self
invariant_of-self g c =
    let k = c.self.invariant in
    elim c.match-what.branch [
      | in-Made w ↦ rw w.self-inside-is (made-out-in-step _ _ _ _ _ _ _ _ _ _ _ _ k c.args.self.now c.args.place c.args.slot c.args.what w.in-Made.id w.push.new.self c.if-slot.self c.self.view_is c.requires.at c.requires.settled c.requires.answer w.in-Made.is w.push.ensures.joins
          (elim c.if-slot.branch [
            | then-slot v ↦ moves-on _ _ _ _ _ _ _ _ _ _ _ _ k c.args.place c.args.slot c.if-slot.self v.if-slot.true v.self-is
            | else-slot v ↦ moves-within _ _ _ _ _ _ _ _ _ _ _ _ k c.args.place c.args.slot c.if-slot.self v.if-slot.false v.self-is
          ]))
      | in_default w ↦ rw w.self-inside-is (passed-out-in-step _ _ _ _ _ _ _ _ _ _ _ _ k c.args.self.now c.args.place c.args.slot c.args.what c.if-slot.self c.self.view_is c.requires.at c.requires.settled c.requires.answer w.in_default.not-Made
          (elim c.if-slot.branch [
            | then-slot v ↦ moves-on _ _ _ _ _ _ _ _ _ _ _ _ k c.args.place c.args.slot c.if-slot.self v.if-slot.true v.self-is
            | else-slot v ↦ moves-within _ _ _ _ _ _ _ _ _ _ _ _ k c.args.place c.args.slot c.if-slot.self v.if-slot.false v.self-is
          ]))
    ]

pub returns-clause-sound : goal.returns-clause-sound
returns-clause-sound g c = (invariant_of-self g c).sound
