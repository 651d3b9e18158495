use Rattle.opened_store.proofs.LongerLaws.{longer}
use Rattle.opened_store.proofs.laws.pages_may_be_longer.Goals as goal

pub returns : goal.returns
returns c = longer
