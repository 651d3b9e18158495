use Rattle.std.proofs.Common.{◌≡◌, ap, arith}
use Rattle.red_walk.specs.Ids.{Ids}
use Rattle.core_store.proofs.QueueLaws.{target-there}
use Rattle.core_store.proofs.references.collect_targets.Goals as goal

pub push-requires-clause-within : goal.push-requires-clause-within
push-requires-clause-within c =
    let k = c.requires _ (target-there c.args.entries.now c.loop-entry.entry-index _ c.loop-entry-test.true) in
    let limit : c.loop-entry.targets.limit ≡ c.args.targets.now.limit = ap (λ (t : Ids). t.limit) c.loop-entry.invariant in
    (k.0, omega (arith, k.1, limit))
