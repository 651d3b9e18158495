use Rattle.standby_laws.proofs.Streams.{fronts}
use Rattle.standby_laws.proofs.streams_give_fronts.Goals as goal

pub returns : goal.returns
returns c = fronts
