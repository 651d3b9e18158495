use Rattle.standby_laws.proofs.Stays.{front-stays}
use Rattle.standby_laws.proofs.fronts_stay_fronts.Goals as goal

pub returns : goal.returns
returns c = front-stays
