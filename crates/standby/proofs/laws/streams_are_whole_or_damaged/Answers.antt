use Rattle.standby.proofs.Undamaged.{undamaged}
use Rattle.standby.proofs.laws.streams_are_whole_or_damaged.Goals as goal

pub returns : goal.returns
returns c = undamaged
