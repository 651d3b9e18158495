use Rattle.std.proofs.Common.{◌≡◌, false, slice_index_or, sym, subst}
use Rattle.red_walk.specs.Ids.{Ids}
use Rattle.ref_tables.specs.Queue.{has}
use Rattle.green_walk.proofs.PicksLaws.{next-new}
use Rattle.green_walk.proofs.reach.begin_with.Goals as goal

pub push-requires-clause-new : goal.push-requires-clause-new
push-requires-clause-new c =
    subst (λ (v : Ids). has v.ids (slice_index_or c.args.ids.now c.loop-id.id-index 0) ≡ false) (sym c.loop-id.invariant) (next-new c.args.ids.now _ c.loop-id.id-index c.requires.once c.loop-id-test.true (λ x m. m))
