use Rattle.object_map.specs.Maps.{IsMap}
use Rattle.object_map.specs.Clients.{seen}
use Rattle.object_map.proofs.RangeLaws.{first_given}
use Rattle.object_map.proofs.getting.ObjectMap.first.Goals as goal

pub returns-clause-pair : goal.returns-clause-pair
returns-clause-pair g c = first_given (λ pairs. IsMap 13 (seen c.args.client.now).graph pairs) c.next.result c.next.ensures.pair
