use Rattle.std.proofs.Common.{length, arith, ap}
use Rattle.green_walk.proofs.TouchedLaws.{none-touched}
use Rattle.green_walk.proofs.green.is_touched.Goals as goal

pub returns-clause-touched : goal.returns-clause-touched
returns-clause-touched g c =
    let sound = c.list-place-end.ensures.sound in
    none-touched c.args.red.now.list c.args.red.now.touched sound.touched_listed
    (λ k l. c.loop-place.invariant.untouched k (let all = ap length c.list-place-end.ensures.ids in omega (arith, l, all)))
