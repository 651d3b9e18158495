use Rattle.standby_feeding.proofs.ShortLaws.{short}
use Rattle.standby_feeding.proofs.laws.streams_end.Goals as goal

pub returns : goal.returns
returns c = short
