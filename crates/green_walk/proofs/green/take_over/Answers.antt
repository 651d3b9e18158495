use Rattle.std.proofs.Common.{subst}
use Rattle.std.specs.Prelude.{Contains}
use Rattle.green_walk.proofs.PicksLaws.{next-new}
use Rattle.green_walk.proofs.green.take_over.Goals as goal

pub push-requires-clause-new : goal.push-requires-clause-new
push-requires-clause-new c =
    next-new c.args.ids.now c.loop-id.list.ids c.loop-id.id-index c.requires.once c.loop-id-test.true
    (λ x m. subst (λ xs. Contains xs x) c.loop-id.invariant.ids m)
