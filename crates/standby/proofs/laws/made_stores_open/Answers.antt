use Rattle.standby.proofs.MadeStores.{made_opens}
use Rattle.standby.proofs.CutStores.{cut-alike}
use Rattle.standby.proofs.laws.made_stores_open.Goals as goal

pub returns-clause-made : goal.returns-clause-made
returns-clause-made c = made_opens

pub returns-clause-cut : goal.returns-clause-cut
returns-clause-cut c = cut-alike
