use Rattle.std.proofs.Common.{ap, ◌∙◌}
use Rattle.plain_map.specs.Pairs.{next_pair}
use Rattle.object_map.specs.Clients.{seen}
use Rattle.object_map.proofs.OneLaws.{map-ascends_proof}
use Rattle.object_map.proofs.RangeLaws.{low_given}
use Rattle.object_map.proofs.range.Range.next.Goals as goal

pub returns-clause-pair : goal.returns-clause-pair
returns-clause-pair g c = λ pairs m.
    c.take.ensures.gives pairs (map-ascends_proof 13 (seen c.args.client.now).graph pairs m) (c.in_ok-found.ensures.pair pairs m ∙ ap (λ k. next_pair k pairs) (low_given c.args.self.now.low c.in-Some.low c.in-Some.is))
