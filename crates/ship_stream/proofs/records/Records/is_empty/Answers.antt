use Rattle.ship_stream.proofs.RunLaws.{none_exactly}
use Rattle.ship_stream.proofs.records.Records.is_empty.Goals as goal

pub returns : goal.returns
returns g c rs are = none_exactly c.args.self.now c.left.result.now c.is_empty.result c.left.ensures.bytes c.is_empty.ensures rs are
